use Rattle.std.proofs.Common.{List, length, sym, ap, ◌∙◌}
use Rattle.event.specs.declared.record.Event.{Event}
use Rattle.event.specs.Entries.{IsEntry}
use Rattle.keeper.specs.Kept.{counts_of, Walked}
use Rattle.keeper.specs.Telling.{undeclared, unless}
use Rattle.keeper.proofs.Storing.{walked_entry}
use Rattle.keeper.proofs.Telling.{asked, none_undeclared, entry_computed}
use Rattle.keeper.proofs.walk.keeping.WalkKeeper.ask.Goals as goal

pub returns : goal.returns
returns c =
    let me = c.args.self.now in
    let counts = counts_of me.plain in
    let t = c.args.t in
    let u = c.args.u in
    let n = c.entry.result in
    let same = c.counts-counts.ensures in
    let both = none_undeclared counts t u (sym c.in_ok-declared.was ∙ c.declared.ensures ∙ ap (λ d. unless (undeclared d t u) tt) same) in
    let found : (es : List Event) → Walked counts me.told me.events.now es → IsEntry es t u n = λ es h.
    walked_entry counts c.counts-counts.result me.told me.events.now c.min-n.result es t u n same c.min-n.ensures h both.1 both.2 c.entry.ensures in
    record {
      undeclared_only = both.0;
      answer = λ es h. asked counts es t u n both.0 (entry_computed counts (length me.events.now) es t u n h.fits (found es h));
      entry = found;
    }

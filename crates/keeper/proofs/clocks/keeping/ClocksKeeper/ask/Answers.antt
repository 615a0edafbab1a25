use Rattle.std.proofs.Common.{List, sym, ap, ◌∙◌}
use Rattle.event.specs.declared.record.Event.{Event}
use Rattle.event.specs.Entries.{IsEntry}
use Rattle.stamp.specs.Clocks.{zeros}
use Rattle.keeper.specs.Kept.{counts_of, many, Clocked}
use Rattle.keeper.specs.Telling.{undeclared, unless}
use Rattle.keeper.proofs.Clocking.{clocked_entry}
use Rattle.keeper.proofs.Telling.{asked, none_undeclared, entry_computed}
use Rattle.keeper.proofs.clocks.keeping.ClocksKeeper.ask.Goals as goal

pub returns : goal.returns
returns c =
    let me = c.args.self.now in
    let counts = counts_of me.plain in
    let t = c.args.t in
    let u = c.args.u in
    let n = c.entry.result in
    let both = none_undeclared counts t u (sym c.in_ok-declared.was ∙ c.declared.ensures ∙ ap (λ d. unless (undeclared d t u) tt) c.counts.ensures) in
    let found : (es : List Event) → Clocked counts me.told me.threads.now me.objects.now es → IsEntry es t u n = λ es h.
    clocked_entry counts me.told me.threads.now me.objects.now es t u n c.in-Some.clock.now h both.1 both.2 (c.in-Some.ensures.lookup.3.1 zeros) c.entry.ensures.entry in
    record {
      undeclared_only = both.0;
      answer = λ es h. asked counts es t u n both.0 (entry_computed counts many es t u n h.fits (found es h));
      entry = found;
    }

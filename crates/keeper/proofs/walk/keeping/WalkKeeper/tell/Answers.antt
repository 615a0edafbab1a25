use Rattle.std.proofs.Common.{◌≡◌, length, Ok, sym, refl, ap, ◌∙◌, length-set}
use Rattle.event.specs.Intakes.{added, admitting}
use Rattle.keeper.specs.Kept.{counts_of}
use Rattle.keeper.proofs.Storing.{walked_push}
use Rattle.keeper.proofs.Telling.{telling_same}
use Rattle.keeper.proofs.walk.keeping.WalkKeeper.tell.Goals as goal

pub returns-clause-tells : goal.returns-clause-tells
returns-clause-tells c =
    let me = c.args.self.now in
    let counts = counts_of me.plain in
    let room = length me.events.now in
    let e = c.args.e in
    let ok : Ok tt ≡ admitting counts room me.told.taken me.told.last e = sym c.in_ok-take.was ∙ c.take.ensures.answer ∙ ap (λ d. admitting d room me.told.taken me.told.last e) c.counts.ensures in
    let taken : c.take.new.self ≡ added me.told e = rw c.in_ok-take.was at c.take.ensures.taken in
    record {
      answer = λ es h. ok ∙ telling_same counts room me.told e es h.took;
      more = λ es h. rw taken (walked_push counts me.told me.events.now e es ok h);
      kept = tt;
      same_counts = refl;
      same_capacity = length-set me.events.now me.told.taken e;
      same_tables = λ d. refl;
    }

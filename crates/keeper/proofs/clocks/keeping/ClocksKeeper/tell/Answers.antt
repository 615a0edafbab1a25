use Rattle.std.proofs.Common.{◌≡◌, length, Ok, sym, refl, ap, ◌∙◌, ap₂}
use Rattle.event.specs.Intakes.{added, admitting}
use Rattle.stamp.specs.Clocks.{later, zeros, tick}
use Rattle.stamp.specs.Slots.{lacking}
use Rattle.stamp.specs.Tables.{threads_after, objects_after}
use Rattle.keeper.specs.Kept.{counts_of, many}
use Rattle.keeper.proofs.Clocking.{clocked_push, length_threads, length_objects}
use Rattle.keeper.proofs.Telling.{telling_same}
use Rattle.keeper.proofs.clocks.keeping.ClocksKeeper.tell.Goals as goal

pub returns-clause-tells : goal.returns-clause-tells
returns-clause-tells c =
    let me = c.args.self.now in
    let counts = counts_of me.plain in
    let ts = me.threads.now in
    let os = me.objects.now in
    let e = c.args.e in
    let ok : Ok tt ≡ admitting counts many me.told.taken me.told.last e = sym c.in_ok-take.was ∙ c.take.ensures.answer ∙ ap (λ d. admitting d many me.told.taken me.told.last e) c.counts.ensures in
    let taken : c.take.new.self ≡ added me.told e = rw c.in_ok-take.was at c.take.ensures.taken in
    let told : c.carry.new.self.told ≡ added me.told e = c.carry.ensures.told ∙ taken in
    let plain : c.carry.new.self.plain ≡ me.plain = c.carry.ensures.plain in
    let threads : c.carry.new.self.threads.now ≡ threads_after later zeros counts ts os e (tick e) = c.carry.ensures.threads in
    let objects : c.carry.new.self.objects.now ≡ objects_after later zeros counts ts os e (tick e) = c.carry.ensures.objects in
    record {
      answer = λ es h. ok ∙ telling_same counts many me.told e es h.took;
      more = λ es h. rw (plain, told) (clocked_push counts me.told ts os _ _ e es threads objects ok h);
      kept = tt;
      same_counts = ap counts_of plain;
      same_capacity = refl;
      same_tables = λ d. ap₂ (lacking d) (ap length threads ∙ length_threads counts ts os e) (ap length objects ∙ length_objects counts ts os e);
    }

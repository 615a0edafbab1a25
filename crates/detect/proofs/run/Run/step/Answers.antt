use Rattle.std.proofs.Common.{List, ◌++◌, refl, ap, ◌∙◌, subst, rules}
use Rattle.event.specs.declared.counts.Counts.{Counts}
use Rattle.event.specs.declared.record.Event.{Event}
use Rattle.event.specs.Thins.{Sound}
use Rattle.finds.specs.Found.{found_at}
use Rattle.keeper.specs.Telling.{telling}
use Rattle.detect.specs.Steps.{counts_of, Going}
use Rattle.detect.proofs.Offering.{offered_as}
use Rattle.detect.proofs.Stepping.{told_refused, ready_next, going_next, spare_next}
use Rattle.detect.proofs.run.Run.step.Goals as goal

pub returns-in-Err-clause-did : goal.returns-in-Err-clause-did
returns-in-Err-clause-did g c =
    let was = c.args.self.now in
    let hands = c.in-Some.ensures in
    let tells = c.in-Err.ensures.tells in
    let s = g.S.Source in
    let k = g.K.Keeper in
    let full = λ (T : List Event) (h : Going s k was T).
    let sound = subst (λ L. Sound (counts_of s was) (T ++ L)) hands.hands h.sound in
    told_refused (counts_of s was) (k.capacity was.keeper.now) T c.in-Some.event (s.rest c.next.new.self) c.in-Err.fault sound (k.fits was.keeper.now T h.told).few
    (tells.answer T h.told ∙ ap (λ d. telling d (k.capacity was.keeper.now) T c.in-Some.event) h.counts)
    in
    search rules

pub returns : goal.returns
returns g c =
    let was = c.args.self.now in
    let hands = c.in-Some.ensures in
    let tells = c.in_default-tell.ensures.tells in
    let passes = c.pass.ensures in
    let spare = spare_next was hands.hands hands.keeps tells.same_counts tells.more refl passes in
    let ready = ready_next was hands.hands hands.keeps tells.same_counts tells.more refl passes in
    record {
      keeps = search rules;
      did = (
        c.if-self.false,
        search rules,
        (
          c.in-Some.event,
          record {
            rest = search rules;
            going = going_next was hands.hands hands.keeps tells.same_counts tells.more refl passes;
            offers = λ T h. offered_as (ap (λ (d : Counts). found_at d.threads T c.in-Some.event) hands.keeps) (passes.offers T (ready T h));
          },
        ),
      );
    }

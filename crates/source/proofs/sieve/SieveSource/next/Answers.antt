use Rattle.std.proofs.Common.{true, false, sym, ◌∙◌, subst}
use Rattle.event.specs.Thins.{Sound}
use Rattle.event.proofs.Sounds.{sound_first}
use Rattle.event.proofs.Sieving.{sieved_turn}
use Rattle.source.proofs.sieve.SieveSource.next.Goals as goal

pub let_through-requires : goal.let_through-requires
let_through-requires g c =
    let s = g.S.Source in
    let below = c.loop-e.self.below in
    (s.counts below, sound_first (s.counts below) c.in-Some.e _ (subst (Sound (s.counts below)) c.in-Some.ensures.hands (s.sound below)))

pub returns-then-let_through : goal.returns-then-let_through
returns-then-let_through g c =
    let came = c.in-Some.ensures in
    let told = c.if-let_through.ensures in
    let lets = g.P.Passing.lets in
    record {
      hands = sieved_turn (lets c.loop-e.self.passing) (lets c.let_through.new.self) c.in-Some.e _ told.goes_on c.loop-e.invariant.0 came.hands true told.lets;
      keeps = came.keeps ∙ c.loop-e.invariant.1;
    }

pub loop-e-preserved : goal.loop-e-preserved
loop-e-preserved g c =
    let came = c.in-Some.ensures in
    let told = c.if-let_through.ensures in
    let lets = g.P.Passing.lets in (
      sym (sieved_turn (lets c.loop-e.self.passing) (lets c.let_through.new.self) c.in-Some.e _ told.goes_on c.loop-e.invariant.0 came.hands false told.lets),
      came.keeps ∙ c.loop-e.invariant.1,
    )

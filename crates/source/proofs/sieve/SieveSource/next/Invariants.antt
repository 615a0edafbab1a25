use Rattle.std.proofs.Common.{◌≡◌, [], length}
use Rattle.event.specs.Sieves.{sieved}
use Rattle.source.proofs.sieve.SieveSource.next.Given as goal

abbrev pub invariant-loop-e : goal.invariant-loop-e
invariant-loop-e g l =
    let s = g.S.Source in
    let lets = g.P.Passing.lets in
    (sieved (lets l.self.passing) [] (s.rest l.self.below) ≡ sieved (lets l.initial.self.passing) [] (s.rest l.initial.self.below))
    × (s.counts l.self.below ≡ s.counts l.initial.self.below)

abbrev pub decreases-loop-e : goal.decreases-loop-e
decreases-loop-e g l = length (g.S.Source.rest l.self.below)

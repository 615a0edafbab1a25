use Rattle.std.proofs.Common.{ℕ, refl, arith}
use lib.ListN.{get_or-replicate}
use Rattle.sink.proofs.tally.Tally.new.Goals as goal

pub invariant_of-result : goal.invariant_of-result
invariant_of-result c = record { few = omega arith; wide = refl; each = λ k lt. omega (arith, get_or-replicate {A = ℕ} 256 k 0 0 lt) }

-- What a listing may come to.
use Rattle.std.specs.Prelude.{ℕ, List, Ok, Err, Result}
use Rattle.output.specs.declared.failure.Failure.{Failure}
use Rattle.output.specs.declared.failure.Failure.TheVariants.{Refused, Memory}
use Rattle.output.specs.Words.{Said, refusing, telling}

-- The fact holds of what is said: the text, or the line of the refusal. Nothing is said where memory runs out.
abbrev pub Says : {V : Type 0} → (V → List ℕ) → (Said → Type 0) → Result V Failure → Type 0
Says bytes P (Ok text) = P (telling (bytes text))
Says bytes P (Err (Refused f)) = P (refusing f)
Says bytes P (Err Memory) = Unit {0}

-- What a checker that keeps the latest access of each kind finds.
use Rattle.std.specs.Prelude.{◌≡◌, ◌<◌, List}
use Rattle.event.specs.declared.record.Event.{Event}
use Rattle.event.specs.Order.{◌∈◌, Race}

-- of one thread, letter and number
pub record Alike (i k : Event) : Type 0 where
  pub thread : i.thread ≡ k.thread
  pub number : i.number ≡ k.number
  pub letter : i.letter ≡ k.letter

-- i and j race in P, and i is the latest of its kind before j
pub record Found (P : List Event) (i j : Event) : Type 0 where
  pub race : Race P i j
  pub latest : (k : Event) → k ∈ P → Alike i k → i.place < k.place → k.place < j.place → ⊥

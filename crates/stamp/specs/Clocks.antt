-- Clocks as stamps: sixteen numbers, in order and joined entry by entry.
use Rattle.std.specs.Prelude.{◌≡◌, ℕ, ◌+◌, ◌-◌, ◌^◌, ◌<◌, ◌≤◌, min, max, List, [], ◌∷◌, length, replicate, slice_index, slice_set, refl}
use Rattle.std.proofs.Common.{arith, length-set}
use Rattle.event.specs.declared.counts.Counts.{Counts}
use Rattle.event.specs.declared.record.Event.{Event}
use Rattle.event.specs.Entries.{IsEntry}
use Rattle.event.specs.Thins.{Sound}
use Rattle.order.specs.Stamps.{deeds, Behind, Bound}
use Rattle.stamp.specs.declared.clock.Clock.{Clock}

-- a clock is not above another where none of its entries is
abbrev pub NoLater : Clock → Clock → Type 0
NoLater x y = (k : ℕ) → slice_index x.entries k ≤ slice_index y.entries k

-- entry by entry the larger one
abbrev pub maxes : List ℕ → List ℕ → List ℕ
maxes [] ys = ys
maxes (x ∷ xs) [] = x ∷ xs
maxes (x ∷ xs) (y ∷ ys) = max x y ∷ maxes xs ys

pub length_maxes : (xs ys : List ℕ) → length (maxes xs ys) ≡ max (length xs) (length ys)
length_maxes [] ys = omega arith
length_maxes (x ∷ xs) [] = omega arith
length_maxes (x ∷ xs) (y ∷ ys) = omega (arith, length_maxes xs ys)

abbrev pub clock_of : (es : List ℕ) → length es ≡ 16 → Clock
clock_of es e = record { entries = es; wide = e }

abbrev pub later : Clock → Clock → Clock
later x y = clock_of (maxes x.entries y.entries) (omega (arith, length_maxes x.entries y.entries, x.wide, y.wide))

abbrev pub zeros : Clock
zeros = clock_of (replicate 16 0) refl

-- what an event contributes: one more than its place, in its own thread's entry
abbrev pub tick : Event → Clock
tick e = let v = min (e.place + 1) (2 ^ 32 - 1) in clock_of (slice_set (replicate 16 0) e.thread v) (length-set (replicate 16 0) e.thread v)

-- where x is what the events behind t give, its number for u is n: the entry of t for u
abbrev pub TellsEntry : Clock → ℕ → ℕ → Type 0
TellsEntry x u n = (c : Counts) (L : List Event) (t : ℕ) → Sound c L → u < c.threads → Bound NoLater (deeds tick L) (λ e. Behind L e t) x → IsEntry L t u n

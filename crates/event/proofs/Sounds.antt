-- Sound lists: that a list is sound has one proof, and what follows of its parts.
use mathlib.Core.HLevel.{Unit-prop}
use mathlib.Core.Logic.{∥∥₁_elim}
use Rattle.std.proofs.Common.{ℕ, ◌+◌, ◌≤◌, List, [], ◌∷◌, ◌++◌, length, arith}
use native.Mathlib.Bridge.{le_prop}
use Rattle.std.specs.List.{AllByRecursion}
use Rattle.event.specs.declared.counts.Counts.{Counts}
use Rattle.event.specs.declared.record.Event.{Event}
use Rattle.event.specs.Thins.{After, Rising, Placed, Sound}

after_prop : (e : Event) (L : List Event) → IsProp (After e L)
after_prop e [] p q = Unit-prop p q
after_prop e (f ∷ L) p q = λ i. (le_prop p.0 q.0 i, after_prop e L p.1 q.1 i)

rising_prop : (L : List Event) → IsProp (Rising L)
rising_prop [] p q = Unit-prop p q
rising_prop (e ∷ L) p q = λ i. (after_prop e L p.0 q.0 i, rising_prop L p.1 q.1 i)

placed_prop : (c : Counts) (L : List Event) → IsProp (AllByRecursion (Placed c) L)
placed_prop c [] p q = Unit-prop p q
placed_prop c (e ∷ L) p q =
    λ i. (
      record {
        thread = le_prop p.0.thread q.0.thread i;
        number = le_prop p.0.number q.0.number i;
        place = le_prop p.0.place q.0.place i;
      },
      placed_prop c L p.1 q.1 i,
    )

sound_prop : (c : Counts) (L : List Event) → IsProp (Sound c L)
sound_prop c L p q = λ i. record { rising = rising_prop L p.rising q.rising i; placed = placed_prop c L p.placed q.placed i }

-- out of a ghost field
pub sound_held : (c : Counts) (L : List Event) → ∥ Sound c L ∥₁ → Sound c L
sound_held c L h = ∥∥₁_elim h (sound_prop c L) (λ s. s)

pub sound_none : (c : Counts) → Sound c []
sound_none c = record { rising = tt; placed = tt }

pub sound_first : (c : Counts) (e : Event) (L : List Event) → Sound c (e ∷ L) → Placed c e
sound_first c e L s = s.placed.0

pub sound_tail : (c : Counts) (e : Event) (L : List Event) → Sound c (e ∷ L) → Sound c L
sound_tail c e L s = record { rising = s.rising.1; placed = s.placed.1 }

-- n events whose places rise from `low` on and stay below a million are at most a million less `low`
short_from : (c : Counts) (low : ℕ) (L : List Event) → low ≤ 1000000 → AllByRecursion (λ e. low ≤ e.place) L → Sound c L → low + length L ≤ 1000000
short_from c low [] l h s = omega arith
short_from c low (e ∷ L) l h s =
    let r = short_from c (e.place + 1) L (omega (arith, s.placed.0.place)) (above L s.rising.0) (sound_tail c e L s) in
    omega (arith, h.0, r)
  where
    above : (M : List Event) → After e M → AllByRecursion (λ f. e.place + 1 ≤ f.place) M
    above [] a = tt
    above (f ∷ M) a = (omega (arith, a.0), above M a.1)

-- a sound list has at most a million events
pub sound_short : (c : Counts) (L : List Event) → Sound c L → length L ≤ 1000000
sound_short c L s = let r = short_from c 0 L (omega arith) (low L) s in omega (arith, r)
  where
    low : (M : List Event) → AllByRecursion (λ f. 0 ≤ f.place) M
    low [] = tt
    low (f ∷ M) = (omega arith, low M)

pub after_front : (e : Event) (L M : List Event) → After e (L ++ M) → After e L
after_front e [] M a = tt
after_front e (f ∷ L) M a = (a.0, after_front e L M a.1)

-- the front of a sound list is sound
pub sound_front : (c : Counts) (L M : List Event) → Sound c (L ++ M) → Sound c L
sound_front c [] M s = sound_none c
sound_front c (e ∷ L) M s =
    let r = sound_front c L M (sound_tail c e (L ++ M) s) in
    record { rising = (after_front e L M s.rising.0, r.rising); placed = (s.placed.0, r.placed) }

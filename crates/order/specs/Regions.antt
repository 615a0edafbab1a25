-- The region of an access: the moments that its thread's acquires and releases leave around it.
-- Moment k is after the first k events of the list, so moments go by index, also where places have gaps.
use Rattle.std.specs.Prelude.{◌≡◌, ℕ, suc, ◌<◌, max, Bool, true, false, cond, ◌&&◌, List, [], ◌∷◌, take, drop, Some, None, Option, ◌==◌, nat_lt}
use Rattle.event.specs.declared.object.Object.{Object}
use Rattle.event.specs.declared.record.Event.{Event}
use Rattle.event.specs.Objects.{released, acquired}
use Rattle.event.specs.Order.{◌∈◌, Acquires, Releases}

-- at the moment k each acquire of p's thread before p has passed, and no release of p's thread after p
pub record Region (L : List Event) (p : Event) (k : ℕ) : Type 0 where
  pub opened : (a : Event) (o : Object) → a ∈ L → a.thread ≡ p.thread → Acquires a o → a.place < p.place → a ∈ take k L
  pub closed : (r : Event) (o : Object) → r ∈ L → r.thread ≡ p.thread → Releases r o → p.place < r.place → r ∈ drop k L

abbrev pub any_object : Option Object → Bool
any_object None = false
any_object (Some o) = true

-- a is an acquire of p's thread before p
abbrev pub acquire_before : Event → Event → Bool
acquire_before a p = a.thread == p.thread && (any_object (acquired a) && nat_lt a.place p.place)

-- r is a release of p's thread after p
abbrev pub release_after : Event → Event → Bool
release_after r p = r.thread == p.thread && (any_object (released r) && nat_lt p.place r.place)

-- of the events of L, whose first has the index i: the first moment after the last acquire before p, or 0
abbrev pub opens_from : ℕ → List Event → Event → ℕ
opens_from i [] p = 0
opens_from i (a ∷ L) p = max (cond (acquire_before a p) (suc i) 0) (opens_from (suc i) L p)

-- of the events of L, whose first has the index i: the moment before the first release after p, or the last moment
abbrev pub closes_from : ℕ → List Event → Event → ℕ
closes_from i [] p = i
closes_from i (r ∷ L) p = cond (release_after r p) i (closes_from (suc i) L p)

-- the first and the last moment of p's region
abbrev pub opens : List Event → Event → ℕ
opens L p = opens_from 0 L p

abbrev pub closes : List Event → Event → ℕ
closes L p = closes_from 0 L p

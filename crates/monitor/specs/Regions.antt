-- The region of the access at an index: the moments after its thread's last acquire before it, and not after its thread's first release behind it.
-- Moment k is after the first k events.
use Rattle.std.specs.Prelude.{ℕ, suc, ◌+◌, ◌≤◌, Bool, cond, ◌&&◌, List, [], ◌∷◌, take, drop, ◌==◌, nat_le}
use Rattle.event.specs.declared.record.Event.{Event}
use Rattle.event.specs.Objects.{released, acquired}
use Rattle.order.specs.Regions.{any_object}

-- the event is an acquire of the thread t, of any object: starts and ends of threads too
abbrev pub acquires_of : ℕ → Event → Bool
acquires_of t e = e.thread == t && any_object (acquired e)

abbrev pub releases_of : ℕ → Event → Bool
releases_of t e = e.thread == t && any_object (released e)

-- of events whose first has the index i, with r found so far
abbrev pub after_last_from : ℕ → ℕ → (Event → Bool) → List Event → ℕ
after_last_from i r test [] = r
after_last_from i r test (e ∷ L) = after_last_from (suc i) (cond (test e) (suc i) r) test L

-- one more than the index of the last event that passes the test, or 0 where none does
abbrev pub after_last : (Event → Bool) → List Event → ℕ
after_last test L = after_last_from 0 0 test L

-- the index of the first event that passes the test, or the number of events where none does
abbrev pub before_first : (Event → Bool) → List Event → ℕ
before_first test [] = 0
before_first test (e ∷ L) = cond (test e) 0 (suc (before_first test L))

-- the first moment of the region of t's access at p
abbrev pub opening : List Event → ℕ → ℕ → ℕ
opening L t p = after_last (acquires_of t) (take p L)

-- the last moment of the region of t's access at p
abbrev pub closing : List Event → ℕ → ℕ → ℕ
closing L t p = suc p + before_first (releases_of t) (drop (suc p) L)

-- the moment k is in the region of t's access at p
pub record InRegion (L : List Event) (t p k : ℕ) : Type 0 where
  pub opened : opening L t p ≤ k
  pub closed : k ≤ closing L t p

abbrev pub in_region : List Event → ℕ → ℕ → ℕ → Bool
in_region L t p k = nat_le (opening L t p) k && nat_le k (closing L t p)

-- Sets of threads as stamps: one binary digit for each thread.
use Rattle.std.specs.Prelude.{◌≡◌, ℕ, zero, suc, ◌/◌, ◌%◌, ◌^◌, ◌<◌, cond, ◌↔◌, List, [], ◌∷◌, length, bit_or, nat_lt}
use mathlib.Core.List.{Memᴰ}
use Rattle.std.specs.List.{AllByRecursion}
use Rattle.event.specs.declared.record.Event.{Event}
use Rattle.event.specs.Thins.{Rising}
use Rattle.order.specs.Stamps.{deeds, Behind, Bound}
use Rattle.stamp.specs.declared.reach.Reach.{Reach}

-- the digit of n at u, counted from the lowest
abbrev pub digit : ℕ → ℕ → ℕ
digit zero n = n % 2
digit (suc u) n = digit u (n / 2)

-- the thread u is in the set
abbrev pub Has : Reach → ℕ → Type 0
Has x u = digit u x.members ≡ 1

abbrev pub Subset : Reach → Reach → Type 0
Subset x y = (u : ℕ) → Has x u → Has y u

abbrev pub union : Reach → Reach → Reach
union x y = record { members = bit_or x.members y.members }

abbrev pub nobody : Reach
nobody = record { members = 0 }

-- the thread alone, or nobody where the set has no digit for it
abbrev pub only : ℕ → Reach
only t = record { members = cond (nat_lt t 16) (2 ^ t) 0 }

-- what an event contributes: its thread
abbrev pub visit : Event → Reach
visit e = only e.thread

-- each number of the list is above n
abbrev pub Above : ℕ → List ℕ → Type 0
Above n [] = Unit {0}
Above n (m ∷ ms) = (n < m) × Above n ms

abbrev pub Ascending : List ℕ → Type 0
Ascending [] = Unit {0}
Ascending (n ∷ ns) = Above n ns × Ascending ns

-- P holds of n numbers
pub record HoldsOf (P : ℕ → Type 0) (n : ℕ) : Type 0 where
  pub which : List ℕ
  pub once : Ascending which
  pub exact : (u : ℕ) → Memᴰ u which ↔ P u
  pub many : length which ≡ n

-- the thread u has an event with a chain to t's latest event
pub record Felt (L : List Event) (t u : ℕ) : Type 0 where
  pub event : Event
  pub of : event.thread ≡ u
  pub behind : Behind L event t

-- each thread of the list has a digit
abbrev pub Few : List Event → Type 0
Few L = AllByRecursion (λ e. e.thread < 16) L

-- where s is what the events behind t give, it has n members exactly where n threads have an event behind t
abbrev pub CountsThreads : Reach → ℕ → Type 0
CountsThreads s n = (L : List Event) (t : ℕ) → Rising L → Few L → Bound Subset (deeds visit L) (λ e. Behind L e t) s → HoldsOf (Felt L t) n

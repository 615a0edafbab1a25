-- Placement: each moment at which a level is held lies in the region of an access that fits the level.
use Rattle.std.specs.Prelude.{◌≡◌, ℕ, zero, suc, ◌<◌, ◌≤◌, Bool, true, false, cond, not, ◌&&◌, ◌||◌, List, length, Some, None, Option, ◌==◌, slice_index_or}
use Rattle.event.specs.declared.counts.Counts.{Counts}
use Rattle.event.specs.declared.letter.Letter.{Letter}
use Rattle.event.specs.declared.letter.Letter.TheVariants.{Read, Write, Acquire, Release, Fork, Join, Begin, End, Strong, Weak, Downgrade, Stop}
use Rattle.event.specs.declared.record.Event.{Event}
use Rattle.event.specs.Order.{Access}
use Rattle.event.specs.Thins.{accesses}
use Rattle.monitor.specs.declared.level.Level.{Level}
use Rattle.monitor.specs.declared.level.Level.TheVariants.{None as none, Weak as weak, Strong as strong}
use Rattle.monitor.specs.Levels.{level_at}
use Rattle.monitor.specs.Regions.{InRegion, in_region}

-- what a read past the end gives
abbrev pub blank : Event
blank = record { place = 0; thread = 0; letter = Read; number = 0; region = 0 }

-- a strong level fits writes, a weak one any access
pub data Suits (l : Level) (e : Event) : Type 0 where
  strongly : l ≡ strong → e.letter ≡ Write → Suits l e
  weakly : l ≡ weak → Access e → Suits l e

-- the event is an access of the thread t to the variable v that fits the level
pub record Fits (e : Event) (t v : ℕ) (l : Level) : Type 0 where
  pub thread : e.thread ≡ t
  pub variable : e.number ≡ v
  pub suits : Suits l e

-- at the moment k the thread t's level on v is not none
abbrev pub Held : List Event → ℕ → ℕ → ℕ → Type 0
Held L k t v = level_at L k t v ≡ none → ⊥

-- the access at p fits the level of t on v at the moment k, and its region holds that moment
pub record CoveredBy (L : List Event) (k t v p : ℕ) : Type 0 where
  pub within : p < length L
  pub fits : Fits (slice_index_or L p blank) t v (level_at L k t v)
  pub holds : InRegion L t p k

abbrev pub Covered : List Event → ℕ → ℕ → ℕ → Type 0
Covered L k t v = (p : ℕ) × CoveredBy L k t v p

-- placement is accepted: each held moment lies in the region of a fitting access
abbrev pub WellPlaced : List Event → Type 0
WellPlaced L = (k t v : ℕ) → k ≤ length L → Held L k t v → Covered L k t v

-- at the moment k some level is held and not covered
pub record Uncovered (L : List Event) (k : ℕ) : Type 0 where
  pub thread : ℕ
  pub variable : ℕ
  pub within : k ≤ length L
  pub held : Held L k thread variable
  pub bare : Covered L k thread variable → ⊥

-- the lowest such moment
pub record LowestUncovered (L : List Event) (k : ℕ) : Type 0 where
  pub uncovered : Uncovered L k
  pub lowest : (j : ℕ) → j < k → Uncovered L j → ⊥

-- The same as functions that compute.

abbrev pub any_below : ℕ → (ℕ → Bool) → Bool
any_below zero test = false
any_below (suc n) test = test n || any_below n test

-- the least of the n numbers from i on that passes the test
abbrev pub least_from : ℕ → ℕ → (ℕ → Bool) → Option ℕ
least_from i zero test = None
least_from i (suc n) test = cond (test i) (Some i) (least_from (suc i) n test)

abbrev pub writes : Letter → Bool
writes Read = false
writes Write = true
writes Acquire = false
writes Release = false
writes Fork = false
writes Join = false
writes Begin = false
writes End = false
writes Strong = false
writes Weak = false
writes Downgrade = false
writes Stop = false

abbrev pub suits : Level → Letter → Bool
suits none a = false
suits weak a = accesses a
suits strong a = writes a

abbrev pub held : Level → Bool
held none = false
held weak = true
held strong = true

abbrev pub fits : Event → ℕ → ℕ → Level → Bool
fits e t v l = e.thread == t && (e.number == v && suits l e.letter)

abbrev pub covered_by : List Event → ℕ → ℕ → ℕ → ℕ → Bool
covered_by L k t v p = fits (slice_index_or L p blank) t v (level_at L k t v) && in_region L t p k

abbrev pub covered : List Event → ℕ → ℕ → ℕ → Bool
covered L k t v = any_below (length L) (covered_by L k t v)

-- the level of t on v is held at the moment k, and no access covers it
abbrev pub exposed : List Event → ℕ → ℕ → ℕ → Bool
exposed L k t v = held (level_at L k t v) && not (covered L k t v)

-- some level is
abbrev pub uncovered : Counts → List Event → ℕ → Bool
uncovered c L k = any_below c.threads (λ t. any_below c.variables (λ v. exposed L k t v))

-- the lowest uncovered moment
abbrev pub lowest : Counts → List Event → Option ℕ
lowest c L = least_from 0 (suc (length L)) (uncovered c L)

-- What a run has found, and what it has done with that.
use Rattle.std.specs.Prelude.{◌≡◌, ℕ, ◌+◌, ◌<◌, min, ◌↔◌, List, [], ◌∷◌, ◌++◌, length, take, fold}
use mathlib.Core.List.{Memᴰ}
use Rattle.event.specs.declared.record.Event.{Event}
use Rattle.event.specs.declared.letter.Letter.TheVariants.{Read, Write}
use Rattle.event.specs.Order.{◌∈◌, Within, Chain, Race}
use Rattle.event.specs.Thins.{Rising, Thins}
use Rattle.order.specs.Finds.{Alike}

-- the earlier and the later access of a finding
abbrev pub Two : Type 0
Two = Event × Event

-- A run that was told T finds j against i: both were told, they race in the whole list W, and no told access of i's thread,
-- variable and letter stands between them.
pub record Finds (W T : List Event) (i j : Event) : Type 0 where
  pub earlier_told : i ∈ T
  pub later_told : j ∈ T
  pub race : Race W i j
  pub latest : (k : Event) → k ∈ T → Alike i k → i.place < k.place → k.place < j.place → ⊥

-- findings come by the later access, then by the earlier one's thread, the write before the read
pub data Sooner (a b : Two) : Type 0 where
  by_later : a.1.place < b.1.place → Sooner a b
  by_thread : a.1 ≡ b.1 → a.0.thread < b.0.thread → Sooner a b
  by_letter : a.1 ≡ b.1 → a.0.thread ≡ b.0.thread → a.0.letter ≡ Write → b.0.letter ≡ Read → Sooner a b

abbrev pub BeforeAll : Two → List Two → Type 0
BeforeAll a [] = Unit {0}
BeforeAll a (b ∷ fs) = Sooner a b × BeforeAll a fs

abbrev pub InOrder : List Two → Type 0
InOrder [] = Unit {0}
InOrder (a ∷ fs) = BeforeAll a fs × InOrder fs

-- fs has every finding once, and nothing else, in order
pub record Lists (W T : List Event) (fs : List Two) : Type 0 where
  pub exact : (i j : Event) → Memᴰ (i, j) fs ↔ Finds W T i j
  pub ordered : InOrder fs

-- What the run reports of its findings, and what its sink took: the first ones, as many as there was room for when it began,
-- each with one step of the sink's own record; the others were dropped, for the sink was full as each was offered.
pub record Reported {R : Type 0} (step : R → Two → R) (room : ℕ) (before after : R) (fs : List Two) (found written dropped : ℕ) : Type 0 where
  pub all : found ≡ length fs
  pub sum : found ≡ written + dropped
  pub first_ones : written ≡ min room (length fs)
  pub steps : after ≡ fold step before (take written fs)

-- The law of a run: for every whole list of which the source's list P is a thinning, told T of it.
pub record Ran {R : Type 0} (step : R → Two → R) (P T : List Event) (room : ℕ) (before after : R) (found written dropped : ℕ) : Type 0 where
  pub findings : List Two
  pub exactly : (W : List Event) → Thins W P → Lists W T findings
  pub reported : Reported step room before after findings found written dropped

-- a told access that races with an earlier told one is found, against an access like that one
abbrev pub AToldRaceIsFound : Type 0
AToldRaceIsFound = (W T : List Event) → Within T W → (i j : Event) → i ∈ T → j ∈ T → Race W i j → (k : Event) × Alike i k × Finds W T k j

-- with no filter a run is told a front of the whole list: a told access that races with an earlier one is then found
abbrev pub WithNoFilterEachRaceIsFound : Type 0
WithNoFilterEachRaceIsFound = (T M : List Event) → Rising (T ++ M) → (i j : Event) → j ∈ T → Race (T ++ M) i j → (k : Event) × Alike i k × Finds (T ++ M) T k j

-- what the run of one pile finds, the run of a pile that holds more finds against the same thread and letter
abbrev pub MoreEventsFindMoreInRuns : Type 0
MoreEventsFindMoreInRuns = (W P Q : List Event) → Thins W P → Thins W Q → Within P Q → (i j : Event) → Finds W P i j → (k : Event) × Alike i k × Finds W Q k j

-- accesses that a chain orders are never found
abbrev pub AnOrderedPairIsNeverFound : Type 0
AnOrderedPairIsNeverFound = (W T : List Event) (i j : Event) → Chain W i j → Finds W T i j → ⊥

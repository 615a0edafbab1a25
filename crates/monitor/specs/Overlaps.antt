-- Overlaps: one thread's level on a variable rises while another thread holds a level on it too, and one of the two levels is strong.
use Rattle.std.specs.Prelude.{◌≡◌, ℕ, zero, suc, ◌<◌, Bool, true, false, cond, not, ◌&&◌, List, [], ◌∷◌, ◌++◌, map, length, Some, None, Option, ◌==◌, ◌≢◌, nat_lt, slice_index_or}
use Rattle.std.specs.Option.{option_map}
use Rattle.std.specs.List.{AllByRecursion}
use Rattle.event.specs.declared.counts.Counts.{Counts}
use Rattle.event.specs.declared.record.Event.{Event}
use Rattle.order.specs.Runs.{Two}
use Rattle.monitor.specs.declared.level.Level.{Level}
use Rattle.monitor.specs.declared.level.Level.TheVariants.{None as none, Weak as weak, Strong as strong}
use Rattle.monitor.specs.Levels.{rank, level_at}
use Rattle.monitor.specs.Placement.{blank, CoveredBy, held, fits, least_from}
use Rattle.monitor.specs.Regions.{in_region}
use Rattle.monitor.specs.Tables.{slot}

abbrev pub event_at : List Event → ℕ → Event
event_at L i = slice_index_or L i blank

-- the levels of the thread t on the variable of the event at i, before that event and just after it
abbrev pub before : List Event → ℕ → ℕ → Level
before L i t = level_at L i t (event_at L i).number

abbrev pub just_after : List Event → ℕ → ℕ → Level
just_after L i t = level_at L (suc i) t (event_at L i).number

-- the event at i raises the level of its own thread
pub record Rises (L : List Event) (i : ℕ) : Type 0 where
  pub within : i < length L
  pub up : rank (before L i (event_at L i).thread) < rank (just_after L i (event_at L i).thread)

-- one of the two levels is strong, and the other is not none
pub data Meet (l m : Level) : Type 0 where
  first_strong : l ≡ strong → (m ≢ none) → Meet l m
  second_strong : (l ≢ none) → m ≡ strong → Meet l m

-- p is the lowest of the accesses that fit the level of t on v at the moment k and have that moment in their regions
pub record LowestFitting (L : List Event) (k t v p : ℕ) : Type 0 where
  pub covers : CoveredBy L k t v p
  pub lowest : (q : ℕ) → q < p → CoveredBy L k t v q → ⊥

-- two accesses, the earlier by place first
abbrev pub by_place : Event → Event → Two
by_place a b = cond (nat_lt a.place b.place) (a, b) (b, a)

-- the index of the event of the rise, the other thread, and the earlier and the later access
pub record Overlap : Type 0 where
  pub rise : ℕ
  pub other : ℕ
  pub two : Two

-- a rise meets the level of another thread: the overlap is on each side's lowest fitting access at the moment just after the rise
pub record Overlaps (c : Counts) (L : List Event) (o : Overlap) : Type 0 where
  pub rises : Rises L o.rise
  pub declared : o.other < c.threads
  pub apart : o.other ≡ (event_at L o.rise).thread → ⊥
  pub meet : Meet (just_after L o.rise (event_at L o.rise).thread) (just_after L o.rise o.other)
  pub own : ℕ
  pub own_access : LowestFitting L (suc o.rise) (event_at L o.rise).thread (event_at L o.rise).number own
  pub others : ℕ
  pub others_access : LowestFitting L (suc o.rise) o.other (event_at L o.rise).number others
  pub pair : o.two ≡ by_place (event_at L own) (event_at L others)

-- overlaps come by the event of the rise, then by the other thread
pub data Sooner (a b : Overlap) : Type 0 where
  by_rise : a.rise < b.rise → Sooner a b
  by_other : a.rise ≡ b.rise → a.other < b.other → Sooner a b

abbrev pub InOrder : List Overlap → Type 0
InOrder [] = Unit {0}
InOrder (a ∷ os) = AllByRecursion (Sooner a) os × InOrder os

-- The same as functions that compute.

abbrev pub rises : List Event → ℕ → Bool
rises L i = nat_lt (rank (before L i (event_at L i).thread)) (rank (just_after L i (event_at L i).thread))

abbrev pub is_strong : Level → Bool
is_strong none = false
is_strong weak = false
is_strong strong = true

abbrev pub meets : Level → Level → Bool
meets none m = false
meets weak m = is_strong m
meets strong m = held m

-- the lowest access of t to v that fits the level l and has the moment k in its region
abbrev pub lowest_fit : List Event → ℕ → ℕ → ℕ → Level → Option ℕ
lowest_fit L k t v l = least_from 0 (length L) (λ p. fits (event_at L p) t v l && in_region L t p k)

abbrev pub lowest_fitting : List Event → ℕ → ℕ → ℕ → Option ℕ
lowest_fitting L k t v = lowest_fit L k t v (level_at L k t v)

abbrev pub on_both : List Event → ℕ → ℕ → Option ℕ → Option ℕ → List Overlap
on_both L i u None q = []
on_both L i u (Some p) None = []
on_both L i u (Some p) (Some q) = record { rise = i; other = u; two = by_place (event_at L p) (event_at L q) } ∷ []

-- does the rise at i, by another thread than u, meet the level of u?
abbrev pub met : List Event → ℕ → ℕ → Bool
met L i u = rises L i && (not (u == (event_at L i).thread) && meets (just_after L i (event_at L i).thread) (just_after L i u))

-- the overlap of the event at i with the thread u, where there is one
abbrev pub overlap_with : List Event → ℕ → ℕ → List Overlap
overlap_with L i u =
    cond (met L i u)
    (on_both L i u (lowest_fitting L (suc i) (event_at L i).thread (event_at L i).number) (lowest_fitting L (suc i) u (event_at L i).number))
    []

-- the lists for the n numbers from i on, one after another
abbrev pub gathered : {X : Type 0} → ℕ → ℕ → (ℕ → List X) → List X
gathered i zero f = []
gathered i (suc n) f = f i ++ gathered (suc i) n f

abbrev pub overlaps_at : Counts → List Event → ℕ → List Overlap
overlaps_at c L i = gathered 0 c.threads (overlap_with L i)

abbrev pub overlaps : Counts → List Event → List Overlap
overlaps c L = gathered 0 (length L) (overlaps_at c L)

-- what is reported: the two accesses of each overlap
abbrev pub reported : Counts → List Event → List Two
reported c L = map (λ (o : Overlap). o.two) (overlaps c L)

-- From tables of levels.

-- does the level of the event's thread on its variable rise from the one table to the other?
abbrev pub raises : Counts → Event → List Level → List Level → Bool
raises c e xs ys = nat_lt (rank (slice_index_or xs (slot c e.thread e.number) none)) (rank (slice_index_or ys (slot c e.thread e.number) none))

-- the lowest access itself
abbrev pub fitting_access_of : List Event → ℕ → ℕ → ℕ → Level → Option Event
fitting_access_of L k t v l = option_map (event_at L) (lowest_fit L k t v l)

abbrev pub paired : Option Event → Option Event → Option Two
paired None b = None
paired (Some a) None = None
paired (Some a) (Some b) = Some (by_place a b)

-- the levels of two threads on one variable, where the threads differ and the levels meet: what is named at the moment k
abbrev pub meeting_on : List Event → ℕ → ℕ → ℕ → ℕ → Level → Level → Option Two
meeting_on L k t u v l m = cond (not (u == t) && meets l m) (paired (fitting_access_of L k t v l) (fitting_access_of L k u v m)) None

-- what the event at i and the thread u name, with the levels of the moment just after the event
abbrev pub named : Counts → List Event → ℕ → ℕ → List Level → Option Two
named c L i u ys =
    cond (nat_lt i (length L))
    (meeting_on L (suc i) (event_at L i).thread u (event_at L i).number (slice_index_or ys (slot c (event_at L i).thread (event_at L i).number) none) (slice_index_or ys (slot c u (event_at L i).number) none))
    None

abbrev pub as_overlap : ℕ → ℕ → Option Two → List Overlap
as_overlap i u None = []
as_overlap i u (Some w) = record { rise = i; other = u; two = w } ∷ []

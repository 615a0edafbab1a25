-- The theorems on monitors, as statements.
use Rattle.std.specs.Prelude.{◌≡◌, ℕ, suc, ◌<◌, ◌≤◌, false, cond, ◌⊎◌, ◌↔◌, List, [], length, take, Some, None, Decides, ◌≢◌}
use mathlib.Core.List.{Memᴰ}
use Rattle.event.specs.declared.counts.Counts.{Counts}
use Rattle.event.specs.declared.record.Event.{Event}
use Rattle.event.specs.Order.{Access, Race}
use Rattle.event.specs.Thins.{Rising, Sound}
use Rattle.order.specs.Regions.{Region}
use Rattle.order.specs.Runs.{Two}
use Rattle.monitor.specs.declared.level.Level.{Level}
use Rattle.monitor.specs.Looks.{can_uncover, span_from, span_to}
use Rattle.monitor.specs.Overlaps.{event_at, Rises, Meet, just_after, Overlap, Overlaps, InOrder, overlap_with, overlaps, raises, named, as_overlap}
use Rattle.monitor.specs.Placement.{Fits, Held, CoveredBy, Covered, WellPlaced, LowestUncovered, fits, covered_by, covered, lowest}
use Rattle.monitor.specs.Regions.{InRegion, in_region}
use Rattle.monitor.specs.Tables.{tabled}

-- by index or by place, in a rising list a region has the same moments
abbrev pub RegionsAgree : Type 0
RegionsAgree = (L : List Event) → Rising L → (p k : ℕ) → p < length L → k ≤ length L → InRegion L (event_at L p).thread p k ↔ Region L (event_at L p) k

-- an access of t has the moment k in its region exactly if it stands behind t's last release before that moment, and before t's first acquire after it
abbrev pub RegionsAreSpans : Type 0
RegionsAreSpans =
    (L : List Event) (t p k : ℕ) → p < length L → k ≤ length L → Access (event_at L p) → InRegion L t p k ↔ ((span_from L t k ≤ p) × (p < span_to L t k))

-- Only an event of the thread itself can uncover a level that was covered, and of these only a release, or one that sets a level.
abbrev pub OnlySomeEventsUncover : Type 0
OnlySomeEventsUncover =
    (L : List Event) (k t v : ℕ) → k < length L → (can_uncover (event_at L k) ≡ false) ⊎ ((event_at L k).thread ≢ t) →
    (Held L k t v → Covered L k t v) → Held L (suc k) t v → Covered L (suc k) t v

-- the functions that compute say what fits, which moments a region has, which access covers a moment, which moment is the lowest uncovered one, and
-- whether there is none
pub record Computed (c : Counts) (L : List Event) : Type 0 where
  pub fitting : (e : Event) (t v : ℕ) (l : Level) → Decides (fits e t v l) (Fits e t v l)
  pub region : (t p k : ℕ) → Decides (in_region L t p k) (InRegion L t p k)
  pub by_access : (k t v p : ℕ) → p < length L → Decides (covered_by L k t v p) (CoveredBy L k t v p)
  pub moment : (k t v : ℕ) → Decides (covered L k t v) (Covered L k t v)
  pub refused : (k : ℕ) → (lowest c L ≡ Some k) ↔ LowestUncovered L k
  pub accepted : (lowest c L ≡ None) ↔ WellPlaced L

abbrev pub PlacementIsComputed : Type 0
PlacementIsComputed = (c : Counts) (L : List Event) → Sound c L → Computed c L

-- each overlap names two accesses that race
abbrev pub EachOverlapIsARace : Type 0
EachOverlapIsARace = (c : Counts) (L : List Event) → Rising L → (o : Overlap) → Overlaps c L o → Race L o.two.0 o.two.1

-- where the placement is right, each rise that meets another thread's level is an overlap
abbrev pub EachMeetingOverlaps : Type 0
EachMeetingOverlaps =
    (c : Counts) (L : List Event) → WellPlaced L → (i u : ℕ) → Rises L i → u < c.threads → (u ≢ (event_at L i).thread) →
    Meet (just_after L i (event_at L i).thread) (just_after L i u) → (w : Two) × Overlaps c L (record { rise = i; other = u; two = w })

-- the computed list has every overlap once, and nothing else, in order
pub record ListedOverlaps (c : Counts) (L : List Event) : Type 0 where
  pub exact : (o : Overlap) → Memᴰ o (overlaps c L) ↔ Overlaps c L o
  pub ordered : InOrder (overlaps c L)

abbrev pub OverlapsAreComputed : Type 0
OverlapsAreComputed = (c : Counts) (L : List Event) → ListedOverlaps c L

-- tables that have the levels before and just after an event tell whether it is a rise, and what it and another thread name
abbrev pub TablesFindOverlaps : Type 0
TablesFindOverlaps =
    (c : Counts) (L : List Event) → Sound c L → (xs : List Level) (i u : ℕ) → i < length L → u < c.threads →
    overlap_with L i u ≡ cond (raises c (event_at L i) (tabled c (take i L) xs) (tabled c (take (suc i) L) xs)) (as_overlap i u (named c L i u (tabled c (take (suc i) L) xs))) []

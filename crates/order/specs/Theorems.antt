-- The theorems on order, as statements.
use Rattle.std.specs.Prelude.{◌≡◌, ℕ, ◌<◌, ◌≤◌, true, ◌↔◌, List, [], ◌∷◌, ◌++◌, length}
use Rattle.event.specs.declared.record.Event.{Event}
use Rattle.event.specs.Entries.{LatestOf, Reaches, IsEntry}
use Rattle.event.specs.Order.{◌∈◌, Within, Chain, Access, Conflict, Race}
use Rattle.event.specs.Thins.{Rising, Thins}
use Rattle.order.specs.Finds.{Alike, Found}
use Rattle.order.specs.Marks.{chained, reaches, entry}
use Rattle.order.specs.Regions.{Region, opens, closes}
use Rattle.order.specs.Stamps.{Deed, events, run, fresh, Sums, All}

-- leaving accesses out neither adds nor removes a chain or a race between the events that stay
pub record Thinned (W P : List Event) (e f : Event) : Type 0 where
  pub chains : Chain W e f ↔ Chain P e f
  pub races : Race W e f ↔ Race P e f

abbrev pub ThinningKeepsRaces : Type 0
ThinningKeepsRaces = (W P : List Event) → Thins W P → (e f : Event) → e ∈ P → f ∈ P → Thinned W P e f

-- a list is a thinning of itself, and a thinning of a thinning is one
pub record ThinningsPileUp : Type 0 where
  pub itself : (W : List Event) → Thins W W
  pub through : (W P Q : List Event) → Thins W P → Thins P Q → Thins W Q

-- a chain never leaves the part before its last event
abbrev pub LaterEventsAddNoChain : Type 0
LaterEventsAddNoChain = (L M : List Event) → Rising (L ++ M) → (e f : Event) → e ∈ L → f ∈ L → Chain (L ++ M) e f ↔ Chain L e f

-- what is found against j in fewer events is found against j in more, by an event like the first
abbrev pub MoreEventsFindMore : Type 0
MoreEventsFindMore = (W P Q : List Event) → Thins W P → Thins W Q → Within P Q → (i j : Event) → Found P i j → (k : Event) × Alike i k × Found Q k j

-- conflicting accesses that have a moment in common in their regions race
abbrev pub ASharedMomentIsARace : Type 0
ASharedMomentIsARace = (L : List Event) → Rising L → (p q : Event) (k : ℕ) → p ∈ L → q ∈ L → p.place < q.place → Conflict p q → Region L p k → Region L q k → Race L p q

-- after a rising list of deeds each stamp is the least upper bound of what the events behind its thread or object give
abbrev pub StampsSumUp : {S : Type 0} → (S → S → Type 0) → (S → S → S) → S → Type 0
StampsSumUp {S} below join least = (xs : List (Deed S)) → Rising (events xs) → Sums below All All xs (run join (fresh least) xs)

-- the function that computes says whether a chain leads from one event to another
abbrev pub ChainsAreComputed : Type 0
ChainsAreComputed = (L : List Event) → Rising L → (e f : Event) → e ∈ L → f ∈ L → (chained L e.place f.place ≡ true) ↔ Chain L e f

-- and whether one leads from an event to some event of a thread
abbrev pub ReachingIsComputed : Type 0
ReachingIsComputed = (L : List Event) → Rising L → (e : Event) → e ∈ L → (t : ℕ) → (reaches L e.place t ≡ true) ↔ Reaches L e t

-- the computed entry is the highest place that reaches
abbrev pub EntriesAreComputed : Type 0
EntriesAreComputed = (L : List Event) → Rising L → (t u : ℕ) → IsEntry L t u (entry L t u)

-- to reach a thread is to reach its latest event
abbrev pub TheLatestIsReached : Type 0
TheLatestIsReached = (L : List Event) → Rising L → (t : ℕ) (l : Event) → LatestOf L t l → (e : Event) → Reaches L e t ↔ Chain L e l

-- among the moments of a list the region of p goes from `opens L p` to `closes L p`
abbrev pub RegionsAreComputed : Type 0
RegionsAreComputed = (L : List Event) → Rising L → (p : Event) (k : ℕ) → k ≤ length L → ((opens L p ≤ k) × (k ≤ closes L p)) ↔ Region L p k

-- a thread's entry for an earlier event's thread tells whether a chain leads from that event to the thread's latest one
abbrev pub TheEntryTest : Type 0
TheEntryTest = (L : List Event) → Rising L → (t : ℕ) (l : Event) → LatestOf L t l → (i : Event) → i ∈ L → Chain L i l ↔ (i.place < entry L t i.thread)

-- the check at an access before it is told: its thread's entry for an earlier event's thread tells whether a chain leads from that event to the access
abbrev pub TheClockTest : Type 0
TheClockTest = (L : List Event) (j : Event) → Rising (L ++ j ∷ []) → Access j → (i : Event) → i ∈ L → Chain (L ++ j ∷ []) i j ↔ (i.place < entry L j.thread i.thread)

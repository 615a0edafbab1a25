-- What a thread's latest event has behind it.
use Rattle.std.specs.Prelude.{◌≡◌, ℕ, suc, ◌≤◌, List}
use Rattle.event.specs.declared.record.Event.{Event}
use Rattle.event.specs.Order.{◌∈◌, Chain}

-- l is the latest event of the thread t
pub record LatestOf (L : List Event) (t : ℕ) (l : Event) : Type 0 where
  pub «in» : l ∈ L
  pub of : l.thread ≡ t
  pub last : (f : Event) → f ∈ L → f.thread ≡ t → f.place ≤ l.place

-- a chain leads from e to some event of the thread t, and so to its latest one
pub record Reaches (L : List Event) (e : Event) (t : ℕ) : Type 0 where
  pub to : Event
  pub of : to.thread ≡ t
  pub chain : Chain L e to

-- n is one more than the highest place of an event of u that reaches t, or 0 where there is none
pub data IsEntry (L : List Event) (t u n : ℕ) : Type 0 where
  nothing : n ≡ 0 → ((e : Event) → e.thread ≡ u → Reaches L e t → ⊥) → IsEntry L t u n
  highest : (e : Event) → e.thread ≡ u → Reaches L e t → n ≡ suc e.place → ((f : Event) → f.thread ≡ u → Reaches L f t → f.place ≤ e.place) → IsEntry L t u n

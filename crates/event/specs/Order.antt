-- The order of a list of events: steps, chains, conflicts and races. Events are known by their places.
use Rattle.std.specs.Prelude.{◌≡◌, ◌<◌, List, Some, ◌≢◌}
use mathlib.Core.List.{Memᴰ}
use Rattle.event.specs.declared.letter.Letter.TheVariants.{Read, Write}
use Rattle.event.specs.declared.object.Object.{Object}
use Rattle.event.specs.declared.record.Event.{Event}
use Rattle.event.specs.Objects.{released, acquired}

infix 4 ◌∈◌
abbrev pub ◌∈◌ : Event → List Event → Type 0
e ∈ L = Memᴰ e L

-- the events of one list are events of the other
abbrev pub Within : List Event → List Event → Type 0
Within L M = (e : Event) → e ∈ L → e ∈ M

abbrev pub Releases : Event → Object → Type 0
Releases e o = released e ≡ Some o

abbrev pub Acquires : Event → Object → Type 0
Acquires e o = acquired e ≡ Some o

-- e leads to a later event f: both are of one thread, or e releases an object that f acquires
pub data Linked (e f : Event) : Type 0 where
  by_thread : e.thread ≡ f.thread → Linked e f
  by_object : (o : Object) → Releases e o → Acquires f o → Linked e f

-- a chain of zero or more steps among the events of L, each to a later event
pub data Chain (L : List Event) (e : Event) : Event → Type 0 where
  start : e ∈ L → Chain L e e
  more : {f g : Event} → Chain L e f → g ∈ L → f.place < g.place → Linked f g → Chain L e g

pub data Access (e : Event) : Type 0 where
  reads : e.letter ≡ Read → Access e
  writes : e.letter ≡ Write → Access e

-- two accesses of one variable from different threads, not both reads
pub record Conflict (e f : Event) : Type 0 where
  pub first : Access e
  pub second : Access f
  pub variable : e.number ≡ f.number
  pub apart : e.thread ≡ f.thread → ⊥
  pub written : e.letter ≡ Read → f.letter ≢ Read

-- conflicting accesses, of which no chain leads from the earlier to the later
pub record Race (L : List Event) (e f : Event) : Type 0 where
  pub first_in : e ∈ L
  pub second_in : f ∈ L
  pub order : e.place < f.place
  pub conflict : Conflict e f
  pub unordered : Chain L e f → ⊥

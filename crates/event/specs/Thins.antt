-- Lists of events: rising places, sound under counts, and lists with accesses left out.
use Rattle.std.specs.Prelude.{◌<◌, ◌≤◌, Bool, true, false, List, [], ◌∷◌}
use Rattle.std.specs.List.{AllByRecursion}
use Rattle.event.specs.declared.counts.Counts.{Counts}
use Rattle.event.specs.declared.letter.Letter.{Letter}
use Rattle.event.specs.declared.letter.Letter.TheVariants.{Read, Write, Acquire, Release, Fork, Join, Begin, End, Strong, Weak, Downgrade, Stop}
use Rattle.event.specs.declared.record.Event.{Event}
use Rattle.event.specs.Order.{Access}
use Rattle.event.specs.Ranges.{limit}

-- each event of the list comes after e
abbrev pub After : Event → List Event → Type 0
After e [] = Unit {0}
After e (f ∷ L) = (e.place < f.place) × After e L

-- places strictly rise
abbrev pub Rising : List Event → Type 0
Rising [] = Unit {0}
Rising (e ∷ L) = After e L × Rising L

-- the event's thread and number are declared, and its place is one that a trace can have
pub record Placed (c : Counts) (e : Event) : Type 0 where
  pub thread : e.thread < c.threads
  pub number : e.number < limit c e.letter
  pub place : e.place ≤ 999999

-- places rise, none is above 999,999, and threads and numbers are in range
pub record Sound (c : Counts) (L : List Event) : Type 0 where
  pub rising : Rising L
  pub placed : AllByRecursion (Placed c) L

abbrev pub accesses : Letter → Bool
accesses Read = true
accesses Write = true
accesses Acquire = false
accesses Release = false
accesses Fork = false
accesses Join = false
accesses Begin = false
accesses End = false
accesses Strong = false
accesses Weak = false
accesses Downgrade = false
accesses Stop = false

-- whether an event is an access
abbrev pub access : Event → Bool
access e = accesses e.letter

-- the second list is the first with some accesses left out, and nothing else
pub data Thins : List Event → List Event → Type 0 where
  none : Thins [] []
  keep : {e : Event} {W P : List Event} → Thins W P → Thins (e ∷ W) (e ∷ P)
  drop : {e : Event} {W P : List Event} → Access e → Thins W P → Thins (e ∷ W) P

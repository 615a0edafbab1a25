-- The latest access of each kind among the events that have passed.
use Rattle.std.specs.Prelude.{ℕ, Bool, true, false, cond, ◌&&◌, List, [], ◌∷◌, Some, None, Option, ◌==◌}
use Rattle.event.specs.declared.letter.Letter.{Letter}
use Rattle.event.specs.declared.letter.Letter.TheVariants.{Read, Write, Acquire, Release, Fork, Join, Begin, End, Strong, Weak, Downgrade, Stop}
use Rattle.event.specs.declared.record.Event.{Event}

abbrev pub is_write_letter : Letter → Bool
is_write_letter Read = false
is_write_letter Write = true
is_write_letter Acquire = false
is_write_letter Release = false
is_write_letter Fork = false
is_write_letter Join = false
is_write_letter Begin = false
is_write_letter End = false
is_write_letter Strong = false
is_write_letter Weak = false
is_write_letter Downgrade = false
is_write_letter Stop = false

abbrev pub is_read : Letter → Bool
is_read Read = true
is_read Write = false
is_read Acquire = false
is_read Release = false
is_read Fork = false
is_read Join = false
is_read Begin = false
is_read End = false
is_read Strong = false
is_read Weak = false
is_read Downgrade = false
is_read Stop = false

-- the event has a letter that the test lets through, the thread u and the number v
abbrev pub touches : (Letter → Bool) → ℕ → ℕ → Event → Bool
touches kind u v e = kind e.letter && (e.thread == u && e.number == v)

abbrev pub or_else : Option Event → Option Event → Option Event
or_else None o = o
or_else (Some e) o = Some e

-- the last of the events with such a letter, the thread u and the number v
abbrev pub latest : (Letter → Bool) → ℕ → ℕ → List Event → Option Event
latest kind u v [] = None
latest kind u v (e ∷ T) = or_else (latest kind u v T) (cond (touches kind u v e) (Some e) None)

-- What is answered to an event after so many others, of which the last has a place.
use Rattle.std.specs.Prelude.{◌≡◌, ℕ, ◌+◌, Bool, cond, ◌&&◌, List, [], ◌∷◌, length, Some, None, Ok, Err, Option, Result, nat_le, nat_lt}
use Rattle.event.specs.declared.counts.Counts.{Counts}
use Rattle.event.specs.declared.fault.CallerFault.{CallerFault}
use Rattle.event.specs.declared.fault.CallerFault.TheVariants.{Range, Place, Full}
use Rattle.event.specs.declared.intake.Intake.{Intake}
use Rattle.event.specs.declared.record.Event.{Event}
use Rattle.event.specs.Ranges.{in_range}

-- the place of a list's last event
abbrev pub last_place : List Event → Option ℕ
last_place [] = None
last_place (e ∷ []) = Some e.place
last_place (e ∷ f ∷ es) = last_place (f ∷ es)

-- the place p can come after the last one
abbrev pub follows : Option ℕ → ℕ → Bool
follows None p = nat_le p 999999
follows (Some q) p = nat_lt q p && nat_le p 999999

-- Refused are a thread or a number that is not declared, then a place that is not above the last or above the highest, then any event where
-- as many were taken as are taken at most.
abbrev pub admitting : Counts → ℕ → ℕ → Option ℕ → Event → Result (Unit {0}) CallerFault
admitting c capacity n last e =
    cond (in_range c e)
    (cond (follows last e.place) (cond (nat_lt n capacity) (Ok tt) (Err (Full capacity))) (Err (Place e.place)))
    (Err (Range e.place))

-- before the first event
abbrev pub fresh : Intake
fresh = record { taken = 0; last = None }

-- after one event more
abbrev pub added : Intake → Event → Intake
added k e = record { taken = k.taken + 1; last = Some e.place }

-- the events of a list were taken
pub record Took (k : Intake) (es : List Event) : Type 0 where
  pub many : k.taken ≡ length es
  pub latest : k.last ≡ last_place es

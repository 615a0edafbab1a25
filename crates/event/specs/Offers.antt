-- What is answered to an event that is offered after a list of events, where at most so many are taken.
use Rattle.std.specs.Prelude.{ℕ, Bool, true, cond, ◌&&◌, List, [], ◌∷◌, length, Ok, Err, Result, nat_le, nat_lt}
use Rattle.event.specs.declared.counts.Counts.{Counts}
use Rattle.event.specs.declared.fault.CallerFault.{CallerFault}
use Rattle.event.specs.declared.fault.CallerFault.TheVariants.{Range, Place, Full}
use Rattle.event.specs.declared.record.Event.{Event}
use Rattle.event.specs.Ranges.{in_range}

-- the place is above that of the list's last event
abbrev pub above_last : List Event → ℕ → Bool
above_last [] p = true
above_last (e ∷ []) p = nat_lt e.place p
above_last (e ∷ f ∷ L) p = above_last (f ∷ L) p

-- Refused are a thread or a number that is not declared, then a place that is not above the last or above 999,999, then any event where the list is full.
abbrev pub offered : Counts → ℕ → List Event → Event → Result (Unit {0}) CallerFault
offered c capacity L e =
    cond (in_range c e)
    (cond (above_last L e.place && nat_le e.place 999999) (cond (nat_lt (length L) capacity) (Ok tt) (Err (Full capacity))) (Err (Place e.place)))
    (Err (Range e.place))

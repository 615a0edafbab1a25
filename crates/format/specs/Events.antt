-- Events, six bytes each.
use Rattle.std.specs.Prelude.{ℕ, zero, suc, ◌+◌, ◌*◌, cond, List, [], ◌∷◌, length, drop, Ok, Err, Result, ◌==◌, nat_le, slice_index}
use Rattle.std.specs.Option.{ok_or}
use Rattle.event.specs.declared.letter.Letter.{Letter}
use Rattle.event.specs.declared.record.Event.{Event}
use Rattle.event.specs.declared.counts.Counts.{Counts}
use Rattle.event.specs.Letters.{letter_at}
use Rattle.event.specs.Ranges.{in_range}
use Rattle.event.specs.Thins.{access}
use Rattle.format.specs.declared.fault.EventFault.{EventFault}
use Rattle.format.specs.declared.fault.EventFault.TheVariants.{Letter as NoLetter, Range, Region}
use Rattle.format.specs.Parse.{and_then}

-- in range, and with no region unless it is an access
abbrev pub judged : Counts → Event → Result Event EventFault
judged c e =
    cond (in_range c e)
    (cond (access e) (Ok e) (cond (e.region == 0) (Ok e) (Err (Region e.place))))
    (Err (Range e.place))

abbrev pub event_body : Counts → ℕ → List ℕ → Letter → Result Event EventFault
event_body c i bs l = judged c (record { place = i; thread = slice_index bs 1; letter = l; number = 256 * slice_index bs 2 + slice_index bs 3; region = 256 * slice_index bs 4 + slice_index bs 5 })

-- the event with the place i, whose bytes are the first six
abbrev pub read_event : Counts → ℕ → List ℕ → Result Event EventFault
read_event c i bs = and_then (ok_or (letter_at (slice_index bs 0)) (NoLetter i)) (event_body c i bs)

abbrev pub got_event : Result Event EventFault → List Event → List Event
got_event (Ok e) es = e ∷ es
got_event (Err f) es = []

-- the events of n, the first with the place i, up to a fault or the end of the bytes
abbrev pub got_events : Counts → ℕ → ℕ → List ℕ → List Event
got_events c i zero bs = []
got_events c i (suc n) bs = cond (nat_le 6 (length bs)) (got_event (read_event c i bs) (got_events c (i + 1) n (drop 6 bs))) []

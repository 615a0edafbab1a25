-- What a list in memory holds.
use Rattle.std.specs.Prelude.{ℕ, cond, List, [], ◌∷◌, ◌++◌, length, take, drop, Ok, Err, Result, nat_le, slice_set}
use Rattle.event.specs.declared.counts.Counts.{Counts}
use Rattle.event.specs.declared.fault.CallerFault.{CallerFault}
use Rattle.event.specs.declared.fault.CallerFault.TheVariants.{Full}
use Rattle.event.specs.declared.record.Event.{Event}
use Rattle.source.specs.declared.list.EventList.{EventList}

-- the table, up to the list's end
abbrev pub listed : EventList → List Event
listed l = take l.len l.table.now

-- all that the table holds, the entries behind the list's end too
abbrev pub entries : EventList → List Event
entries l = l.table.now

-- as many events as the table has entries
abbrev pub capacity : EventList → ℕ
capacity l = length (entries l)

-- all that a list is: whose table it has, its counts, its events, and all that the table holds
pub record Held : Type 0 where
  pub lender : ℕ
  pub counts : Counts
  pub events : List Event
  pub entries : List Event

abbrev pub held : EventList → Held
held l = record { lender = l.table.ghost_name; counts = l.counts; events = listed l; entries = entries l }

-- with an event more, which takes the entry behind the list's events
abbrev pub with_event : Held → Event → Held
with_event h e = record { lender = h.lender; counts = h.counts; events = h.events ++ e ∷ []; entries = slice_set h.entries (length h.events) e }

-- with these counts and events in place of its own: the events take the table's front, and the entries behind them stay
abbrev pub refilled : Held → Counts → List Event → Held
refilled h c L = record { lender = h.lender; counts = c; events = L; entries = L ++ drop (length L) h.entries }

-- what is answered where all of these events are to be held
abbrev pub room_for : ℕ → List Event → Result (Unit {0}) CallerFault
room_for capacity L = cond (nat_le (length L) capacity) (Ok tt) (Err (Full capacity))

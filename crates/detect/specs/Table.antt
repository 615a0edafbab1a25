-- The table of latest accesses: for each variable and each thread its latest write and its latest read.
use Rattle.std.specs.Prelude.{◌≡◌, ℕ, ◌+◌, ◌*◌, ◌<◌, ◌≤◌, cond, List, length, Some, None, Err, Option, Result, nat_lt, slice_index_or, slice_set}
use Rattle.event.specs.declared.counts.Counts.{Counts}
use Rattle.event.specs.declared.fault.CallerFault.{CallerFault}
use Rattle.event.specs.declared.fault.CallerFault.TheVariants.{Table}
use Rattle.event.specs.declared.letter.Letter.{Letter}
use Rattle.event.specs.declared.letter.Letter.TheVariants.{Read, Write}
use Rattle.event.specs.declared.record.Event.{Event}
use Rattle.event.specs.Thins.{access}
use Rattle.finds.specs.Latest.{is_write_letter, is_read, latest}
use Rattle.keeper.specs.Telling.{clearing}

-- how many entries the table needs
abbrev pub size : Counts → ℕ
size c = 2 * c.threads * c.variables

-- where the latest access of a thread to a variable stands: its write, and right behind it its read
abbrev pub slot : Counts → Letter → ℕ → ℕ → ℕ
slot c l u v = 2 * (v * c.threads + u) + cond (is_write_letter l) 0 1

-- the table after an event
abbrev pub noted : Counts → List (Option Event) → Event → List (Option Event)
noted c table e = cond (access e) (slice_set table (slot c e.letter e.thread e.number) (Some e)) table

-- the table holds the latest accesses among the events T
pub record Holds (c : Counts) (T : List Event) (table : List (Option Event)) : Type 0 where
  pub long : size c ≤ length table
  pub write : (u v : ℕ) → u < c.threads → v < c.variables → slice_index_or table (slot c Write u v) None ≡ latest is_write_letter u v T
  pub read : (u v : ℕ) → u < c.threads → v < c.variables → slice_index_or table (slot c Read u v) None ≡ latest is_read u v T

-- The answer of a start: refused where the table of latest accesses, of so many entries, is too small, and then where a table of the keeper is.
abbrev pub starting : Counts → ℕ → Option ℕ → Result (Unit {0}) CallerFault
starting c entries lacks = cond (nat_lt entries (size c)) (Err (Table (size c))) (clearing lacks)

-- A table of levels, one for each thread and variable: thread by thread.
use Rattle.std.specs.Prelude.{ℕ, ◌+◌, ◌*◌, ◌/◌, ◌%◌, min, cond, List, ◌++◌, map, length, drop, replicate, Ok, Err, Result, nat_lt, slice_index_or, slice_set}
use Rattle.std.specs.List.{range_with_len}
use Rattle.event.specs.declared.counts.Counts.{Counts}
use Rattle.event.specs.declared.fault.CallerFault.{CallerFault}
use Rattle.event.specs.declared.fault.CallerFault.TheVariants.{Table}
use Rattle.event.specs.declared.record.Event.{Event}
use Rattle.monitor.specs.declared.level.Level.{Level}
use Rattle.monitor.specs.declared.level.Level.TheVariants.{None as none}
use Rattle.monitor.specs.Levels.{level, after}

-- how many entries the counts need
abbrev pub size : Counts → ℕ
size c = c.threads * c.variables

-- where the level of the thread t on the variable v stands
abbrev pub slot : Counts → ℕ → ℕ → ℕ
slot c t v = t * c.variables + v

-- the answer of a call that wants n entries to be enough
abbrev pub room : Counts → ℕ → Result (Unit {0}) CallerFault
room c n = cond (nat_lt n (size c)) (Err (Table (size c))) (Ok tt)

-- the entries that the counts use are none, the others stay
abbrev pub cleared : Counts → List Level → List Level
cleared c xs = replicate (min (size c) (length xs)) none ++ drop (size c) xs

-- what an event does to the entry of its thread and variable
abbrev pub stepped : Counts → List Level → Event → List Level
stepped c xs e = slice_set xs (slot c e.thread e.number) (after e.letter (slice_index_or xs (slot c e.thread e.number) none))

-- the level of each thread on each variable after these events
abbrev pub grid : Counts → List Event → List Level
grid c L = map (λ i. level L (i / c.variables) (i % c.variables)) (range_with_len 0 (size c))

-- the table with these levels, the entries that are not used as they were
abbrev pub tabled : Counts → List Event → List Level → List Level
tabled c L xs = grid c L ++ drop (size c) xs

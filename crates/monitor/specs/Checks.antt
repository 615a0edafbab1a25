-- What the check of a placement answers and leaves.
use Rattle.std.specs.Prelude.{◌≡◌, ℕ, ◌<◌, ◌≤◌, cond, List, length, take, Some, None, Ok, Err, Option, Result, nat_lt}
use Rattle.event.specs.declared.counts.Counts.{Counts}
use Rattle.event.specs.declared.fault.CallerFault.TheVariants.{Table}
use Rattle.event.specs.declared.record.Event.{Event}
use Rattle.monitor.specs.declared.fault.PlacementFault.{PlacementFault}
use Rattle.monitor.specs.declared.fault.PlacementFault.TheVariants.{Caller, Uncovered}
use Rattle.monitor.specs.declared.level.Level.{Level}
use Rattle.monitor.specs.Placement.{WellPlaced, LowestUncovered, lowest}
use Rattle.monitor.specs.Tables.{size, tabled}

-- refused is the lowest uncovered moment, where there is one
abbrev pub refusing : Option ℕ → Result (Unit {0}) PlacementFault
refusing None = Ok tt
refusing (Some k) = Err (Uncovered k)

-- the answer at a table of n entries
abbrev pub checked : Counts → List Event → ℕ → Result (Unit {0}) PlacementFault
checked c L n = cond (nat_lt n (size c)) (Err (Caller (Table (size c)))) (refusing (lowest c L))

abbrev pub up_to : Option ℕ → List Event → List Event
up_to None L = L
up_to (Some k) L = take k L

-- the events up to the lowest uncovered moment, or all
abbrev pub reached : Counts → List Event → List Event
reached c L = up_to (lowest c L) L

-- the table as it is left
abbrev pub left : Counts → List Event → List Level → List Level
left c L xs = cond (nat_lt (length xs) (size c)) xs (tabled c (reached c L) xs)

-- Accepted exactly where the table is large enough and the placement right; refused for the table exactly where it is too small, and else for the
-- lowest uncovered moment.
abbrev pub Judged : Counts → List Event → ℕ → Result (Unit {0}) PlacementFault → Type 0
Judged c L n (Ok _) = (size c ≤ n) × WellPlaced L
Judged c L n (Err (Caller f)) = (n < size c) × (f ≡ Table (size c))
Judged c L n (Err (Uncovered k)) = (size c ≤ n) × LowestUncovered L k

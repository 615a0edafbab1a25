use Rattle.std.proofs.Common.{◌≡◌, ℕ, ◌≤◌, false, take}
use Rattle.monitor.specs.Placement.{uncovered}
use Rattle.monitor.specs.Tables.{tabled}
use Rattle.monitor.specs.Lent.{LeftWith}
use Rattle.monitor.proofs.placement.first_uncovered.Given as goal

abbrev pub invariant-loop-i : goal.invariant-loop-i
invariant-loop-i l =
    LeftWith l.initial.levels l.levels (tabled l.initial.levels.counts (take l.i l.events) l.initial.levels.table.now)
    × ((j : ℕ) → j ≤ l.i → uncovered l.initial.levels.counts l.events j ≡ false)

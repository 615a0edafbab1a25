use Rattle.std.proofs.Common.{take}
use Rattle.monitor.specs.Lent.{LeftWith}
use Rattle.monitor.specs.Tables.{tabled}
use Rattle.detect.specs.Offers.{none, Offering}
use Rattle.detect.proofs.Meeting.{reported_to}
use Rattle.detect.proofs.overlaps.each_rise.Given as goal

abbrev pub invariant-loop-i : goal.invariant-loop-i
invariant-loop-i g l =
    LeftWith l.initial.levels l.levels (tabled l.initial.levels.counts (take l.i l.events) l.initial.levels.table.now)
    × Offering g.O.Sink l.initial.sink none (reported_to l.initial.levels.counts l.events l.i) l.sink l.totals

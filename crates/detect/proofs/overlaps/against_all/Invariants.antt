use Rattle.detect.specs.Meetings.{named_by}
use Rattle.detect.specs.Offers.{Offering}
use Rattle.detect.proofs.overlaps.against_all.Given as goal

abbrev pub invariant-loop-other : goal.invariant-loop-other
invariant-loop-other g l =
    Offering g.O.Sink l.initial.sink l.initial.totals (named_by l.levels.counts l.events l.index l.levels.table.now l.other) l.sink l.totals

use Rattle.monitor.proofs.Overlapping.{meeting_overlaps}
use Rattle.monitor.proofs.theorems.each_meeting_overlaps.Goals as goal

pub returns : goal.returns
returns c = meeting_overlaps

use Rattle.monitor.proofs.Overlapping.{overlap_race}
use Rattle.monitor.proofs.theorems.each_overlap_is_a_race.Goals as goal

pub returns : goal.returns
returns c = overlap_race

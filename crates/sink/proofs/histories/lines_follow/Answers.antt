use Rattle.sink.proofs.Repeating.{lines_follow_lem}
use Rattle.sink.proofs.histories.lines_follow.Goals as goal

pub returns : goal.returns
returns c = lines_follow_lem

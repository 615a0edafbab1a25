use Rattle.sink.proofs.Repeating.{counters_count_lem}
use Rattle.sink.proofs.histories.counters_count.Goals as goal

pub returns : goal.returns
returns c = counters_count_lem

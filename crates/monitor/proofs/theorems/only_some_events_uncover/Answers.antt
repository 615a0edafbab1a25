use Rattle.monitor.proofs.Checking.{only_some}
use Rattle.monitor.proofs.theorems.only_some_events_uncover.Goals as goal

pub returns : goal.returns
returns c = only_some

use Rattle.monitor.proofs.Judging.{computed}
use Rattle.monitor.proofs.theorems.placement_is_computed.Goals as goal

pub returns : goal.returns
returns c = computed

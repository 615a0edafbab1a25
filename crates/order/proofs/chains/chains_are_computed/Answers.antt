use Rattle.order.proofs.Marking.{chained_iff}
use Rattle.order.proofs.chains.chains_are_computed.Goals as goal

pub returns : goal.returns
returns c = chained_iff

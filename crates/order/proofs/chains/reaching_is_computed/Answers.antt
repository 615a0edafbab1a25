use Rattle.order.proofs.Marking.{reaches_iff}
use Rattle.order.proofs.chains.reaching_is_computed.Goals as goal

pub returns : goal.returns
returns c = reaches_iff

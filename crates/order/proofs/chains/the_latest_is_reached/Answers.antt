use Rattle.order.proofs.Behind.{reaches_latest}
use Rattle.order.proofs.chains.the_latest_is_reached.Goals as goal

pub returns : goal.returns
returns c = reaches_latest

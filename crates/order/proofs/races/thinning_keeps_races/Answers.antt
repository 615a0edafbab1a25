use Rattle.order.proofs.Thinning.{thinned}
use Rattle.order.proofs.races.thinning_keeps_races.Goals as goal

pub returns : goal.returns
returns c = thinned

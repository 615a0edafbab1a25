use Rattle.order.proofs.Bounds.{region_iff}
use Rattle.order.proofs.regions.regions_are_computed.Goals as goal

pub returns : goal.returns
returns c = region_iff

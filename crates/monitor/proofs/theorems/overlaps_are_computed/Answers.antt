use Rattle.monitor.proofs.Listing.{overlaps_listed}
use Rattle.monitor.proofs.theorems.overlaps_are_computed.Goals as goal

pub returns : goal.returns
returns c = overlaps_listed

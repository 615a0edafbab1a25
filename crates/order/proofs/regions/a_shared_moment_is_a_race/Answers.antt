use Rattle.order.proofs.Moments.{shared_moment}
use Rattle.order.proofs.regions.a_shared_moment_is_a_race.Goals as goal

pub returns : goal.returns
returns c = shared_moment

use Rattle.stamp.specs.ReachingLemmas.{counts_threads}
use Rattle.stamp.proofs.reach.Reach.size.Goals as goal

pub returns-clause-threads : goal.returns-clause-threads
returns-clause-threads c = counts_threads c.args.self

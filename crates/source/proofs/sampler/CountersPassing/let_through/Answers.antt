use Rattle.std.proofs.Common.{rules}
use Rattle.source.proofs.Sampling.{counted_lets}
use Rattle.source.proofs.sampler.CountersPassing.let_through.Goals as goal

pub returns-clause-goes_on : goal.returns-clause-goes_on
returns-clause-goes_on c = counted_lets c.args.self.now _ c.args.e (search rules) (search rules)

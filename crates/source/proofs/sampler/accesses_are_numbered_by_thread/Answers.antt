use Rattle.source.proofs.Sampling.{numbered_by_thread}
use Rattle.source.proofs.sampler.accesses_are_numbered_by_thread.Goals as goal

pub returns : goal.returns
returns c = numbered_by_thread

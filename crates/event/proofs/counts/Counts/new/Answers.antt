use Rattle.event.proofs.Same.{counted_own}
use Rattle.event.proofs.counts.Counts.new.Goals as goal

pub returns-clause-value : goal.returns-clause-value
returns-clause-value c = counted_own _

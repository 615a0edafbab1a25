use Rattle.order.proofs.Telling.{clock_test}
use Rattle.order.proofs.chains.the_clock_test.Goals as goal

pub returns : goal.returns
returns c = clock_test

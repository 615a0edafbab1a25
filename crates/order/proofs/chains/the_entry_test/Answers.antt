use Rattle.order.proofs.Telling.{entry_test}
use Rattle.order.proofs.chains.the_entry_test.Goals as goal

pub returns : goal.returns
returns c = entry_test

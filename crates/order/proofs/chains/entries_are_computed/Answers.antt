use Rattle.order.proofs.Entries.{entry_right}
use Rattle.order.proofs.chains.entries_are_computed.Goals as goal

pub returns : goal.returns
returns c = entry_right

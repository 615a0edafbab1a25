use Rattle.order.proofs.Finding.{found_more}
use Rattle.order.proofs.races.more_events_find_more.Goals as goal

pub returns : goal.returns
returns c = found_more

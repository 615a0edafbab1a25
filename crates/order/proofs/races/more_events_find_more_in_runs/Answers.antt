use Rattle.order.proofs.Finding.{runs_find_more}
use Rattle.order.proofs.races.more_events_find_more_in_runs.Goals as goal

pub returns : goal.returns
returns c = runs_find_more

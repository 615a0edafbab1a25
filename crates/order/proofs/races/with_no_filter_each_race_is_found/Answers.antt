use Rattle.order.proofs.Finding.{each_race_found}
use Rattle.order.proofs.races.with_no_filter_each_race_is_found.Goals as goal

pub returns : goal.returns
returns c = each_race_found

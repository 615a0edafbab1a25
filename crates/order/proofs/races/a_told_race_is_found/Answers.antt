use Rattle.order.proofs.Finding.{told_race_found}
use Rattle.order.proofs.races.a_told_race_is_found.Goals as goal

pub returns : goal.returns
returns c = told_race_found

use Rattle.finds.proofs.Exact.{findings_exact}
use Rattle.finds.proofs.the_findings_are_the_races.Goals as goal

pub returns : goal.returns
returns c = findings_exact

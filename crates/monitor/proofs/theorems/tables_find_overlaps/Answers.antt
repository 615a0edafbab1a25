use Rattle.monitor.proofs.Reporting.{tables_find}
use Rattle.monitor.proofs.theorems.tables_find_overlaps.Goals as goal

pub returns : goal.returns
returns c = tables_find

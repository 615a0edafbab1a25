use Rattle.format.proofs.Exactness.{files_are_read_exactly_lem}
use Rattle.format.proofs.exact.files_are_read_exactly.Goals as goal

pub returns : goal.returns
returns c = files_are_read_exactly_lem

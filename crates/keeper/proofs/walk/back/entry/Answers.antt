use Rattle.std.proofs.Common.{refl}
use Rattle.keeper.proofs.walk.back.entry.Goals as goal

pub returns : goal.returns
returns c = c.walk_back.ensures refl refl

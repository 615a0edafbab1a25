use Rattle.monitor.proofs.Agreeing.{regions_agree_lem}
use Rattle.monitor.proofs.theorems.regions_agree.Goals as goal

pub returns : goal.returns
returns c = λ L up p k lp lk. regions_agree_lem L up p k lp lk

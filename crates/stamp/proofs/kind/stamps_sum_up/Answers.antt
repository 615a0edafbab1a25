use Rattle.order.proofs.Stamping.{stamps_sum_up_lem}
use Rattle.stamp.proofs.kind.stamps_sum_up.Goals as goal

pub returns : goal.returns
returns g c = stamps_sum_up_lem g.met.S.Stamp.lawful

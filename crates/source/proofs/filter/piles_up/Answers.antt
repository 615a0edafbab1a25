use Rattle.event.proofs.Thinning.{thins_trans}
use Rattle.source.proofs.filter.piles_up.Goals as goal

pub returns : goal.returns
returns g c = record { thins = λ whole t. thins_trans t (g.met.F.Filter.thins _); same = g.met.F.Filter.same _ }

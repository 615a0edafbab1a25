use Rattle.order.proofs.Thinning.{thins_self, thins_through}
use Rattle.order.proofs.races.thinnings_pile_up.Goals as goal

pub returns : goal.returns
returns c = record { itself = thins_self; through = λ W P Q s t. thins_through s t }

use Rattle.event.proofs.Thinning.{thins_refl, thins_trans, thins_sound}
use Rattle.source.proofs.filter.thinnings_compose.Goals as goal

pub returns : goal.returns
returns c = record { reflexive = thins_refl; transitive = λ L M N p q. thins_trans p q; sound = λ c L M t s. thins_sound c t s }

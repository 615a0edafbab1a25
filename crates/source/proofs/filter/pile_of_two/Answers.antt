use Rattle.std.proofs.Common.{◌∙◌}
use Rattle.event.proofs.Thinning.{thins_trans}
use Rattle.source.proofs.filter.pile_of_two.Goals as goal

pub returns : goal.returns
returns g c = record {
  thins = thins_trans (g.met.P.Filter.thins _) (g.met.F.Filter.thins _);
  same = g.met.P.Filter.same _ ∙ g.met.F.Filter.same _;
}

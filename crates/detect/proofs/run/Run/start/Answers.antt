use Rattle.std.proofs.Common.{sym, ap, ◌∙◌, rules}
use Rattle.detect.proofs.Going.{going_begun}
use Rattle.detect.proofs.run.Run.start.Goals as goal

pub returns-clause-going : goal.returns-clause-going
returns-clause-going g c =
    let lent = c.new.ensures.lent in
    let counts = ap (λ r. g.S.Source.counts r.now) lent.0 ∙ sym c.counts-counts.ensures in
    going_begun g.S.Source g.K.Keeper c.new.result c.counts-counts.result _ c.clear_for.new.keeper _ c.clear_for.new.latest counts (search rules) (search rules) c.in_ok-clear_for.ensures.cleared

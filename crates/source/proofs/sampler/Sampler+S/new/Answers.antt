use Rattle.std.proofs.Common.{◌≡◌, ◌∙◌}
use Rattle.source.specs.Sampled.{sampled, sampled_by}
use Rattle.source.proofs.Making.{made}
use Rattle.source.proofs.Sampling.{sampled_fresh}
use Rattle.source.proofs.sampler.Sampler+S.new.Goals as goal

pub returns-clause-list : goal.returns-clause-list
returns-clause-list g c =
    let rest = g.S.Source.rest in
    let b = c.args.burst in
    let p = c.args.period in
    let below = c.args.below in
    made (λ l k. sampled_by k (rest l) ≡ sampled b p (rest below)) below _ _ (c.over.ensures.answer ∙ c.new.ensures) c.over.ensures.below (sampled_fresh b p (rest below))

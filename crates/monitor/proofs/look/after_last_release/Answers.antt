use Rattle.std.proofs.Common.{◌≡◌, ◌+◌, ℕ, rules, Option, Some, None, sym, refl, ◌∙◌, add-one}
use Rattle.monitor.specs.Regions.{releases_of, after_last}
use Rattle.monitor.proofs.Bounding.{after_last_is, after_last_none}
use Rattle.monitor.proofs.look.after_last_release.Goals as goal

pub returns-clause-value : goal.returns-clause-value
returns-clause-value c = found c.rposition.result refl
  where
    found : (o : Option ℕ) → c.rposition.result ≡ o → c.map_or.result ≡ after_last (releases_of c.args.thread) c.args.events.now
    found None none =
        let zero : c.map_or.result ≡ 0 = search rules in
        zero ∙ sym (after_last_none (releases_of c.args.thread) c.args.events.now (λ j lj. search rules))
    found (Some i) last =
        let next : c.map_or.result ≡ i + 1 = search rules in
        next ∙ add-one i ∙ sym (after_last_is (releases_of c.args.thread) c.args.events.now i (search rules) (search rules) (λ j lt lj. search rules))

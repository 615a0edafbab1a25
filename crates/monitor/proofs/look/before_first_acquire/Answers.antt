use Rattle.std.proofs.Common.{◌≡◌, ℕ, rules, Option, Some, None, length, sym, refl, ◌∙◌}
use Rattle.monitor.specs.Regions.{acquires_of, before_first}
use Rattle.monitor.proofs.Bounding.{before_first_is, before_first_none}
use Rattle.monitor.proofs.look.before_first_acquire.Goals as goal

pub returns-clause-value : goal.returns-clause-value
returns-clause-value c = found c.position.result refl
  where
    found : (o : Option ℕ) → c.position.result ≡ o → c.unwrap_or.result ≡ before_first (acquires_of c.args.thread) c.args.events.now
    found None none =
        let end : c.unwrap_or.result ≡ length c.args.events.now = search rules in
        end ∙ sym (before_first_none (acquires_of c.args.thread) c.args.events.now (λ j lj. search rules))
    found (Some i) first =
        let here : c.unwrap_or.result ≡ i = search rules in
        here ∙ sym (before_first_is (acquires_of c.args.thread) c.args.events.now i (search rules) (search rules) (λ j lt. search rules))

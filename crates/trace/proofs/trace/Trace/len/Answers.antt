use Rattle.std.proofs.Common.{◌≡◌, ◌/◌, min, length, sym, ap, ◌∙◌, arith}
use Rattle.std.proofs.lemmas.List.{length-take}
use Rattle.trace.proofs.trace.Trace.len.Goals as goal

pub returns-clause-count : goal.returns-clause-count
returns-clause-count c =
    let events = c.args.self.now.events.now in
    let most : c.min.result ≡ min 6000000 (length events) = omega (arith, c.min.ensures) in
    ap (λ n. n / 6) (most ∙ sym (length-take 6000000 events))

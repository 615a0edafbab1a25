use Rattle.std.proofs.Common.{◌≡◌, ◌/◌, length, take, min, ap, ◌∙◌, arith}
use Rattle.std.proofs.lemmas.List.{take_min}
use Rattle.format.specs.Events.{got_events}
use Rattle.trace.proofs.events.Events.starting.Goals as goal

pub returns-clause-events : goal.returns-clause-events
returns-clause-events c =
    let block = c.args.block.now in
    let most : c.min-most.result ≡ min 6000000 (length block) = omega (arith, c.min-most.ensures) in
    let front : take c.min-most.result block ≡ take 6000000 block = ap (λ k. take k block) most ∙ take_min 6000000 block in
    ap (λ b. got_events c.args.counts 0 (length b / 6) b) front

use Rattle.std.proofs.Common.{◌≡◌, ◌≤◌, vec_items, length, ap, ◌∙◌, arith}
use Rattle.source.specs.Listed.{Held, listed, capacity}
use Rattle.output.proofs.Overlapping.{by_contents, few_taken}
use Rattle.output.proofs.Saying.{says_more}
use Rattle.output.proofs.monitors.OverlapsListing.list.Goals as goal

pub returns : goal.returns
returns c laid =
    let l = c.copy_from.new.self in
    let did = c.in_ok-copy_from.ensures in
    let counts : l.counts ≡ c.events.result.counts = ap (λ (h : Held). h.counts) did.list in
    let events = ap (λ (h : Held). h.events) did.list in
    let fits : length (listed l) ≤ capacity c.new-list.result = omega (arith, ap length events, few_taken _ _ _ did.answer) in
    let few : length (listed l) ≤ 4096 = omega (arith, fits, ap (λ (h : Held). length h.entries) c.new-list.ensures) in
    says_more vec_items _ _ c.overlaps_of.result
    (by_contents c.args.t.now l.counts (listed l) laid (counts ∙ c.events.ensures.counts) (events ∙ c.events.ensures.events) few)
    c.overlaps_of.ensures

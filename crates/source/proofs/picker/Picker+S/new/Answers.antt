use Rattle.std.proofs.Common.{◌≡◌, ap, ◌∙◌}
use Rattle.event.specs.declared.counts.Counts.{Counts}
use Rattle.source.specs.Picked.{picked, picks_for}
use Rattle.source.proofs.Making.{made}
use Rattle.source.proofs.Picking.{picked_own}
use Rattle.source.proofs.picker.Picker+S.new.Goals as goal

pub returns-clause-list : goal.returns-clause-list
returns-clause-list g c =
    let s = g.S.Source in
    let below = c.args.below in
    let bytes = c.args.bytes.now in
    let asked = c.over.ensures.answer ∙ c.new-picks.ensures ∙ ap (λ (k : Counts). picks_for k.variables bytes) c.counts.ensures in
    made (λ l p. picked p.bytes (s.rest l) ≡ picked bytes (s.rest below)) below _ _ asked c.over.ensures.below (picked_own (s.counts below) bytes (s.rest below) (s.sound below))

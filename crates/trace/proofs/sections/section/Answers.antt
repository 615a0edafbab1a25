use Rattle.std.proofs.Common.{◌≡◌, true, refl, ap, ◌∙◌, rules}
use Rattle.format.specs.Parse.{two_from}
use Rattle.format.specs.Items.{items_from, after}
use Rattle.format.specs.Names.{within}
use Rattle.format.proofs.Inverse.{within_true}
use Rattle.trace.specs.Section.{fewest, most}
use Rattle.trace.proofs.Laying.{section_kept}
use Rattle.trace.proofs.sections.section.Goals as goal

pub returns : goal.returns
returns c =
    let r = c.args.r.now in
    let n = c.in_ok-count.count in
    let t = c.two.new.self.total in
    let w : within (fewest c.args.kind) (most c.args.kind) n ≡ true = search rules in
    let s =
    section_kept c.args.kind (fewest c.args.kind) (most c.args.kind) r.total c.total-total.result n r.rest.now c.two.new.self.rest.now c.rest-bytes.result.now c.skip.new.r.rest.now
    c.rest-bytes.ensures (c.total-total.ensures ∙ c.in_ok-count.ensures.total) r.within w
    (c.in_ok-count.ensures.value ∙ ap (λ p. two_from p r.rest.now) c.offset-start.ensures.value)
    (c.in_ok-skip.ensures.value ∙ ap (λ t. after (items_from c.args.kind t n c.two.new.self.rest.now)) c.in_ok-count.ensures.total) in
    record { value = s.value; laid = s.at; count = s.count; few = within_true (fewest c.args.kind) (most c.args.kind) n w; kind = refl; total = search rules }

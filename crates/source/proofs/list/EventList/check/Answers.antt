use Rattle.std.proofs.Common.{sym, ap, ◌∙◌, rules}
use Rattle.std.proofs.lemmas.List.{length-take-le}
use Rattle.event.specs.Intakes.{last_place}
use Rattle.event.proofs.Intaking.{admitting_offered}
use Rattle.source.specs.Listed.{listed}
use Rattle.source.proofs.Fronts.{last_lent}
use Rattle.source.proofs.list.EventList.check.Goals as goal

pub returns : goal.returns
returns c =
    let l = c.args.self.now in
    let last = last_lent c.as_slice.result.now c.last.result c.map-last.result c.last.ensures.value c.map-last.ensures.cases (λ e n h. search rules) in
    c.admit.ensures ∙ admitting_offered l.counts _ l.len c.map-last.result c.args.e (listed l) (sym (length-take-le l.len l.table.now l.fits)) (last ∙ ap last_place c.as_slice.ensures)

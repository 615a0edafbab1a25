use Rattle.std.proofs.Common.{◌≡◌, ◌-◌, take, Some, ap, ◌∙◌, arith}
use Rattle.std.specs.Result.{result_ok}
use Rattle.std.proofs.lemmas.Option.{MatchOption-at_some}
use Rattle.source.proofs.Picking.{own_copy}
use Rattle.source.proofs.picker.Picks.new.Goals as goal

pub returns : goal.returns
returns c =
    let bytes = c.args.bytes.now in
    let w = c.variables-variables.result in
    let some : c.get.result ≡ Some c.in_ok-first.first = c.ok_or.ensures.ok_part ∙ ap result_ok c.in_ok-first.was in
    let part = MatchOption-at_some _ _ c.in_ok-first.first some c.get.ensures.lookup.0 in
    let whole : w - 0 ≡ w = omega arith in
    own_copy c.args.counts.variables w bytes c.copy_from_slice.new.self c.variables-variables.ensures part.1
    (c.copy_from_slice.ensures.after ∙ part.2 ∙ ap (λ k. take k bytes) whole)

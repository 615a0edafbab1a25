use Rattle.std.proofs.Common.{set, ap, ◌∙◌, arith}
use Rattle.event.proofs.Clearing.{clear_more}
use Rattle.event.proofs.table.clear.Goals as goal

pub loop-entry-preserved : goal.loop-entry-preserved
loop-entry-preserved g c =
    ap (λ l. set l c.loop-entry.entry-index c.args.value) c.loop-entry.invariant ∙ clear_more c.loop-entry.entry-index _ c.args.value (omega arith)

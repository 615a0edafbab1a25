use Rattle.std.proofs.Common.{sym}
use Rattle.detect.proofs.Conflicts.{conflicting_true}
use Rattle.detect.proofs.finding.Finding.between.Goals as goal

pub invariant_of-result : goal.invariant_of-result
invariant_of-result c =
    let h = conflicting_true c.args.earlier c.args.later (sym c.if-not-is_conflicting.ensures) in
    record { order = h.order; last = h.last; apart = h.apart; written = h.written; same = h.same; small = h.small }

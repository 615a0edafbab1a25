use Rattle.std.proofs.Common.{◌≡◌, length}
use Rattle.source.specs.Listed.{held}
use Rattle.source.proofs.Copying.{Copied}
use Rattle.source.proofs.list.EventList.append_all.Given as goal

abbrev pub invariant-loop-e : goal.invariant-loop-e
invariant-loop-e g l =
    let s = g.S.Source in
    Copied (s.rest l.initial.source) (s.rest l.source) (held l.initial.self) (held l.self) × (s.counts l.source ≡ s.counts l.initial.source)

abbrev pub decreases-loop-e : goal.decreases-loop-e
decreases-loop-e g l = length (g.S.Source.rest l.source)

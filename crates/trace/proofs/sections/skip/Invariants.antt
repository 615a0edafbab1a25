use Rattle.std.proofs.Common.{◌≡◌, ◌-◌}
use Rattle.format.specs.Items.{items_from, after}
use Rattle.trace.proofs.sections.skip.Given as goal

-- what comes of the entries that are left, comes of all
abbrev pub invariant-loop : goal.invariant-loop
invariant-loop l = record {
  total : l.r.total ≡ l.initial.r.total;
  left : after (items_from l.kind l.r.total (l.count - l.counter) l.r.rest.now) ≡ after (items_from l.kind l.initial.r.total l.count l.initial.r.rest.now);
}

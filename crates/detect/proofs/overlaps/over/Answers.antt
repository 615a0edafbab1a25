use Rattle.std.proofs.Common.{cond, [], ap}
use Rattle.detect.specs.Meetings.{named_by}
use Rattle.detect.proofs.Offering.{offering_none, offering_as}
use Rattle.detect.proofs.overlaps.over.Goals as goal

pub returns-else-step_up : goal.returns-else-step_up
returns-else-step_up g c =
    let did = c.if-step_up.ensures in
    let n = c.args.levels.now.counts in
    record {
      levels = did.levels;
      offers = offering_as g.O.Sink (ap (λ b. cond b (named_by n c.args.events.now c.args.index c.step_up.new.self.table.now n.threads) []) did.rises) (offering_none g.O.Sink);
    }

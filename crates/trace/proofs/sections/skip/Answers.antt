use Rattle.std.proofs.Common.{◌+◌, ◌-◌, arith, rules}
use Rattle.trace.proofs.Skips.{after_step}
use Rattle.trace.proofs.sections.skip.Goals as goal

pub loop-preserved : goal.loop-preserved
loop-preserved c =
    let e = after_step c.args.kind c.loop.r.total (c.args.count - c.loop.counter) (c.args.count - (c.loop.counter + 1)) c.loop.r.rest.now (omega arith) in
    search rules

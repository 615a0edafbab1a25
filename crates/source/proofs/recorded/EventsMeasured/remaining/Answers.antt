use Rattle.std.proofs.Common.{length, ap}
use Rattle.std.proofs.lemmas.Iterator.Consumers.{count_from_yields_List, YieldsList-from_shown}
use Rattle.trace.specs.Feed.{coming, Fed}
use Rattle.source.proofs.recorded.EventsMeasured.remaining.Goals as goal

pub returns : goal.returns
returns c =
    let s = c.args.self.now in
    count_from_yields_List s c.count.result c.count.ensures.ran (YieldsList-from_shown Fed (λ e. e) coming (λ t u h. ap length h.0) (λ t e u h. h.0) s)

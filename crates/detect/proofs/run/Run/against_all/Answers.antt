use Rattle.std.proofs.Common.{◌<◌, sym, ap, arith}
use Rattle.event.specs.declared.counts.Counts.{Counts}
use Rattle.finds.proofs.Pushes.{below_none, below_more}
use Rattle.detect.proofs.Asides.{aside_none, aside_more, ready_aside}
use Rattle.detect.proofs.Offering.{offered_none, offered_as, offered_more}
use Rattle.detect.proofs.run.Run.against_all.Goals as goal

pub loop-thread-init : goal.loop-thread-init
loop-thread-init g c = (aside_none _, λ T r a. offered_as (sym (below_none T c.args.later)) offered_none)

pub loop-thread-preserved : goal.loop-thread-preserved
loop-thread-preserved g c =
    let inv = c.loop-thread.invariant in
    let did = c.against_thread.ensures in
    let n = c.loop-thread.thread in
    let counts = ap (λ (d : Counts). d.threads) c.counts.ensures in (
      aside_more inv.0 did.aside,
      λ T r a.
          let same = ap (λ s. (g.S.Source.counts s.now).threads) inv.0.source in
          let lt : n < (g.S.Source.counts c.loop-thread.self.source.now).threads = omega (arith, c.loop-thread-test.true, c.threads-threads.ensures, counts, same) in
          offered_as (sym (below_more n T c.args.later)) (offered_more (inv.1 T r a) inv.0.capacity (did.offers T (ready_aside inv.0 r) a lt)),
    )

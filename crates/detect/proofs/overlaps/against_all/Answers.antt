use Rattle.std.proofs.Common.{◌≡◌, ℕ, ◌+◌, ◌++◌, sym, ap, ◌∙◌, arith}
use Rattle.monitor.specs.Overlaps.{gathered, named}
use Rattle.monitor.proofs.Listing.{gathered_more}
use Rattle.detect.specs.Meetings.{if_named, named_by}
use Rattle.detect.proofs.Offering.{offering_none, offering_as, offering_more}
use Rattle.detect.proofs.overlaps.against_all.Goals as goal

pub loop-other-init : goal.loop-other-init
loop-other-init g c = offering_none g.O.Sink

pub loop-other-preserved : goal.loop-other-preserved
loop-other-preserved g c =
    let n = c.loop-other.other in
    let f = λ (u : ℕ). if_named (named c.args.levels.now.counts c.args.events.now c.args.index u c.args.levels.now.table.now) in
    let z : 0 + n ≡ n = omega arith in
    let same = ap (λ w. gathered 0 n f ++ if_named w) c.named-two.ensures ∙ ap (λ k. gathered 0 n f ++ f k) (sym z) ∙ sym (gathered_more f 0 n) in
    offering_as g.O.Sink same (offering_more g.O.Sink c.loop-other.invariant c.offer_named.ensures)

pub returns : goal.returns
returns g c =
    let end : c.loop-other.other ≡ c.args.levels.now.counts.threads = omega (arith, c.loop-other-test.false, c.loop-other.auto.other-end, c.threads-threads.ensures) in
    offering_as g.O.Sink (ap (named_by c.args.levels.now.counts c.args.events.now c.args.index c.args.levels.now.table.now) end) c.loop-other.invariant

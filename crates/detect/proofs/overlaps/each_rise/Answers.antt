use Rattle.std.proofs.Common.{◌≡◌, suc, ◌+◌, ◌++◌, length, take, sym, refl, ap, ◌∙◌, subst, arith}
use Rattle.std.proofs.lemmas.List.{take_all}
use Rattle.event.specs.declared.counts.Counts.{Counts}
use Rattle.monitor.specs.Lent.{LeftWith}
use Rattle.monitor.specs.Tables.{tabled}
use Rattle.monitor.proofs.Checking.{turned_on}
use Rattle.detect.specs.Meetings.{if_raised}
use Rattle.detect.specs.Offers.{none, Offering}
use Rattle.detect.proofs.Meeting.{rise_offers, reported_to, reported_more}
use Rattle.detect.proofs.Offering.{offering_none, offering_as, offering_more}
use Rattle.detect.proofs.overlaps.each_rise.Goals as goal

pub loop-i-init : goal.loop-i-init
loop-i-init g c = (
  record { counts = refl; lent = refl; levels = c.requires.clear },
  subst (λ t. Offering g.O.Sink c.args.sink.now none (reported_to c.args.levels.now.counts c.args.events.now 0) c.args.sink.now t) (sym c.none-totals.ensures) (offering_none g.O.Sink),
)

pub loop-i-preserved : goal.loop-i-preserved
loop-i-preserved g c =
    let lent = c.args.levels.now in
    let n = lent.counts in
    let es = c.args.events.now in
    let i = c.loop-i.i in
    let inv = c.loop-i.invariant in
    let did = c.over.ensures in
    let next = turned_on es c.requires.sound i c.loop-i-test.true inv.0 did.levels in
    let s : i + 1 ≡ suc i = omega arith in
    let was = c.loop-i.levels.table.now in
    let is = c.over.new.levels.table.now in
    let offers = ap (λ (d : Counts). if_raised d es i was is) inv.0.counts ∙ rise_offers n es c.requires.sound i c.loop-i-test.true lent.table.now was is inv.0.levels (next.levels ∙ ap (λ k. tabled n (take k es) lent.table.now) s) in (
      next,
      offering_as g.O.Sink (ap (λ fs. reported_to n es i ++ fs) offers ∙ reported_more n es i) (offering_more g.O.Sink inv.1 did.offers),
    )

pub returns : goal.returns
returns g c =
    let lent = c.args.levels.now in
    let es = c.args.events.now in
    let i = c.loop-i.i in
    let inv = c.loop-i.invariant in
    let end : i ≡ length es = omega arith in
    record {
      levels = subst (λ M. LeftWith lent c.loop-i.levels (tabled lent.counts M lent.table.now)) (take_all i es (omega arith)) inv.0;
      offers = offering_as g.O.Sink (ap (reported_to lent.counts es) end) inv.1;
    }

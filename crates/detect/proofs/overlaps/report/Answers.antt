use Rattle.std.proofs.Common.{◌≡◌, List, [], rules, sym, ap, ◌∙◌, subst, subst₂}
use Rattle.event.specs.declared.counts.Counts.{Counts}
use Rattle.event.specs.declared.record.Event.{Event}
use Rattle.event.specs.Thins.{Sound}
use Rattle.event.proofs.Sounds.{sound_held}
use Rattle.source.specs.Listed.{listed}
use Rattle.monitor.specs.Overlaps.{reported}
use Rattle.monitor.specs.Tables.{cleared, tabled}
use Rattle.detect.specs.Offers.{none, OffersTo}
use Rattle.detect.proofs.Meeting.{cleared_anew, levels_anew, reports_all}
use Rattle.detect.proofs.overlaps.report.Goals as goal

pub each_rise-requires : goal.each_rise-requires
each_rise-requires g c =
    let l = c.args.list.now in
    let checks = c.in_ok-check.ensures in
    let lent = c.clear.new.self in
    let counts = c.clear.ensures.counts ∙ c.counts-counts.ensures in
    let clear = c.clear.ensures.levels ∙ ap (λ (d : Counts). cleared d c.check.new.levels) c.counts-counts.ensures in
    let anew = clear ∙ cleared_anew l.counts (listed l) c.args.levels.now c.check.new.levels _ checks.answer checks.levels ∙ ap (tabled l.counts []) (sym clear) in
    record {
      sound = subst₂ (λ (a : Counts) b. Sound a b) (sym counts) (sym c.as_slice.ensures) (sound_held l.counts (listed l) l.sound);
      clear = subst (λ (d : Counts). lent.table.now ≡ tabled d [] lent.table.now) (sym counts) anew;
    }

pub returns : goal.returns
returns g c =
    let l = c.args.list.now in
    let checks = c.in_ok-check.ensures in
    let did = c.each_rise.ensures in
    let counts = c.clear.ensures.counts ∙ c.counts-counts.ensures in
    let events = c.as_slice.ensures in
    let after = c.check.new.levels in
    let leaves =
    did.levels.levels
    ∙ (λ i. tabled (counts i) (events i) c.clear.new.self.table.now)
    ∙ ap (tabled l.counts (listed l)) (c.clear.ensures.levels ∙ ap (λ (d : Counts). cleared d after) c.counts-counts.ensures)
    ∙ levels_anew l.counts (listed l) c.args.levels.now after _ checks.answer checks.levels in
    record {
      answer = checks.answer;
      exact = checks.exact;
      levels = search (rules, leaves, did.levels.lent, c.clear.ensures.lent);
      reports =
          reports_all g.O.Sink l.counts (listed l) (sound_held l.counts (listed l) l.sound) checks.exact.1 _ _ _ did.offers.capacity
          (subst₂ (λ (d : Counts) (L : List Event). OffersTo g.O.Sink c.args.sink.now none (reported d L) c.each_rise.new.sink c.each_rise.result) counts events did.offers.offers);
      kept = tt;
    }

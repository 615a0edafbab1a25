use Rattle.std.proofs.Common.{◌≡◌, ◌-◌, map, refl, ap, arith, vec_items}
use Rattle.std.proofs.lemmas.Result.{err_from_is_err_and}
use Rattle.source.specs.Listed.{listed}
use Rattle.sink.specs.Written.{Written, room}
use Rattle.monitor.specs.Overlaps.{Overlap}
use Rattle.monitor.specs.Placement.{lowest}
use Rattle.output.specs.Monitors.{ByPlacement}
use Rattle.output.proofs.Overlapping.{accepted_listed, refused_said}
use Rattle.output.proofs.Printing.{Printed, printed_lines}
use Rattle.output.proofs.Saying.{says_that}
use Rattle.output.proofs.monitors.overlaps_of.Goals as goal

pub returns-in_err-totals : goal.returns-in_err-totals
returns-in_err-totals c =
    let l = c.args.list.now in
    let did = c.in_err-totals.ensures in
    let p = err_from_is_err_and c.from_residual.result c.from_residual.ensures.1 in
    rw (p.1, p.2) (refused_said l.counts (listed l) c.in_err-totals.field-0.0 _ did.answer did.exact refl)

pub returns : goal.returns
returns c =
    let l = c.args.list.now in
    let did = c.in_ok-totals.ensures in
    let r = did.reports in
    let t = c.in_ok-totals.totals in
    let s = c.new-sink.result in
    let cap : room s ≡ 3000 = c.new-sink.ensures.capacity in
    let free : room s - s.taken ≡ 3000 = omega (arith, c.new-sink.ensures.taken) in
    let p : Printed (map (λ (x : Overlap). x.two) r.overlaps) c.back.result.now t.found t.written t.dropped =
    printed_lines _ _ _ _ t.found t.written t.dropped c.back.result.now free (ap (λ (x : Written). x.lines) c.new-sink.ensures.written) r.reported c.back.ensures.bytes in
    says_that vec_items (ByPlacement l.counts (listed l) (lowest l.counts (listed l))) _ c.told.result
    (accepted_listed l.counts (listed l) tt _ did.answer (record {
      accepted = refl;
      placed = did.exact.1;
      overlaps = r.overlaps;
      exactly = r.exactly;
      in_order = r.in_order;
      racing = r.racing;
      printed = p.printed;
    }))
    c.told.ensures

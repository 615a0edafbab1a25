use Rattle.std.proofs.Common.{◌/◌, length, Ok, sym, ap, ◌∙◌, rules}
use Rattle.format.specs.Events.{got_events}
use Rattle.trace.specs.Standing.{kinds_in, standing_of}
use Rattle.trace.specs.Whole.{counts_in}
use Rattle.format.specs.Standings.{kind_table, kinds_of}
use Rattle.trace.specs.Section.{items_in}
use Rattle.trace.proofs.Locks.{given_kinds, given_fresh}
use Rattle.trace.proofs.Scans.{scan_whole, block_held}
use Rattle.trace.proofs.file.scan.Goals as goal

pub returns : goal.returns
returns c =
    let t = c.in_ok-trace.trace in
    let r = c.new-rules.result in
    let few = c.in_ok-trace.ensures.size.1 in
    let held = block_held t few in
    let same = c.new-rules.ensures.counts ∙ c.counts.ensures in
    let ks = kind_table (kinds_of (items_in t.objects)) in
    let objects = c.new-rules.ensures.objects ∙ c.locks.ensures in
    record {
      value =
          scan_whole c.args.bytes.now t (Ok tt) (kinds_in r) r.counts (standing_of r) c.in_ok-trace.ensures.value c.in_ok-trace.ensures.laid
          (given_kinds r ks objects) same (given_fresh r ks objects c.new-rules.ensures.stages) few c.in_ok-check_events.ensures.value;
      laid = c.in_ok-trace.ensures.laid;
      few = few;
      events = ap (λ b. length (got_events (counts_in t) 0 (length b / 6) b)) held ∙ ap (λ d. length (got_events d 0 (length t.events.now / 6) t.events.now)) (sym same) ∙ c.in_ok-check_events.ensures.length ∙ ap (λ b. length b / 6) (sym held);
    }

pub returns-in_err-check_events : goal.returns-in_err-check_events
returns-in_err-check_events c =
    let t = c.in_ok-trace.trace in
    let r = c.new-rules.result in
    let ks = kind_table (kinds_of (items_in t.objects)) in
    let objects = c.new-rules.ensures.objects ∙ c.locks.ensures in
    let w =
    scan_whole c.args.bytes.now t c.check_events.result (kinds_in r) r.counts (standing_of r) c.in_ok-trace.ensures.value c.in_ok-trace.ensures.laid
    (given_kinds r ks objects) (c.new-rules.ensures.counts ∙ c.counts.ensures) (given_fresh r ks objects c.new-rules.ensures.stages) c.in_ok-trace.ensures.size.1 c.check_events.ensures.value in
    search rules

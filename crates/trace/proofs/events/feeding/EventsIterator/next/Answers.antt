use Rattle.std.proofs.Common.{◌/◌, length, arith, rules}
use Rattle.format.proofs.Checks.{got_step}
use Rattle.trace.proofs.Chunks.{read_front}
use Rattle.trace.proofs.events.feeding.EventsIterator.next.Goals as goal

pub returns-clause-steps : goal.returns-clause-steps
returns-clause-steps c =
    let s = c.args.self.now in
    let e = got_step s.counts s.place (length s.rest.now / 6) (length c.in_ok-bytes.after.now / 6) s.rest.now (omega (arith, c.in_ok-bytes.ensures.cases.2)) (omega (arith, c.in_ok-bytes.ensures.cases.2)) in
    let r = read_front s.counts s.place s.rest.now in
    search rules

pub returns-in_err-e-clause-steps : goal.returns-in_err-e-clause-steps
returns-in_err-e-clause-steps c =
    let s = c.args.self.now in
    let e = got_step s.counts s.place (length s.rest.now / 6) (length c.in_ok-bytes.after.now / 6) s.rest.now (omega (arith, c.in_ok-bytes.ensures.cases.2)) (omega (arith, c.in_ok-bytes.ensures.cases.2)) in
    let r = read_front s.counts s.place s.rest.now in
    search rules

use Rattle.std.proofs.Common.{◌≡◌, ℕ, ◌*◌, ◌/◌, List, length, Ok, Result, arith, rules}
use Rattle.event.specs.declared.counts.Counts.{Counts}
use Rattle.format.specs.declared.fault.OrderFault.{OrderFault}
use Rattle.format.specs.declared.kinds.ObjectKind.{ObjectKind}
use Rattle.format.specs.Events.{got_events}
use Rattle.format.specs.Parse.{map_ok}
use Rattle.format.specs.Standings.{Standing, ruled_from}
use Rattle.trace.specs.Standing.{standing_of, kinds_in}
use Rattle.format.proofs.Checks.{verdict, told, got_events_is, got_length, event_range}
use Rattle.trace.proofs.Chunks.{chunk_step}
use Rattle.trace.proofs.file.check_events.Goals as goal

-- what comes of the events is their verdict
told_all : (x : Result (Unit {0}) OrderFault) (ks : List ObjectKind) (c : Counts) (s : Standing) (n : ℕ) (bs : List ℕ) → length bs ≡ 6 * n → verdict (ruled_from ks c s 0 n bs) ≡ x → map_ok (λ _. got_events c 0 n bs) x ≡ ruled_from ks c s 0 n bs
told_all x ks c s n bs m h = told x (ruled_from ks c s 0 n bs) (got_events c 0 n bs) (λ es k. got_events_is ks c s 0 n bs es m k) h

pub step-requires : goal.step-requires
step-requires c = search (rules, event_range)

pub loop-place-preserved : goal.loop-place-preserved
loop-place-preserved c =
    let l = c.loop-place in
    let bs = c.args.events.now in
    let e = chunk_step (kinds_in l.rules) l.rules.counts (standing_of l.rules) l.place (length bs / 6) bs c.as_chunks.result.0.now c.as_chunks.ensures.front (omega arith) in
    search rules

pub returns-in_err-e-clause-value : goal.returns-in_err-e-clause-value
returns-in_err-e-clause-value c =
    let l = c.loop-place in
    let r = c.args.rules in
    let bs = c.args.events.now in
    let e = chunk_step (kinds_in l.rules) l.rules.counts (standing_of l.rules) l.place (length bs / 6) bs c.as_chunks.result.0.now c.as_chunks.ensures.front (omega arith) in
    told_all _ (kinds_in r) r.counts (standing_of r) (length bs / 6) bs c.requires.whole (search rules)

pub returns-in_err-step-clause-value : goal.returns-in_err-step-clause-value
returns-in_err-step-clause-value c =
    let l = c.loop-place in
    let r = c.args.rules in
    let bs = c.args.events.now in
    let e = chunk_step (kinds_in l.rules) l.rules.counts (standing_of l.rules) l.place (length bs / 6) bs c.as_chunks.result.0.now c.as_chunks.ensures.front (omega arith) in
    told_all _ (kinds_in r) r.counts (standing_of r) (length bs / 6) bs c.requires.whole (search rules)

pub returns : goal.returns
returns c =
    let r = c.args.rules in
    let bs = c.args.events.now in
    let v = told_all (Ok tt) (kinds_in r) r.counts (standing_of r) (length bs / 6) bs c.requires.whole (search rules) in
    record { length = got_length (kinds_in r) r.counts (standing_of r) (length bs / 6) bs v; value = v }

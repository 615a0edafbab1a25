use Rattle.std.proofs.Common.{◌≡◌, ◌-◌, ◌≤◌, length, sym, refl, ap, ◌∙◌, subst, arith, vec_items}
use Rattle.event.specs.declared.counts.Counts.{Counts}
use Rattle.trace.specs.Feed.{coming}
use Rattle.trace.specs.Whole.{contents_of}
use Rattle.trace.proofs.Soundness.{coming_few}
use Rattle.order.specs.Runs.{Lists}
use Rattle.sink.specs.Written.{Written, room}
use Rattle.stamp.specs.Slots.{slots}
use Rattle.output.specs.Races.{RacesListed}
use Rattle.output.proofs.Racing.{Listed, listed, few_latest, no_lack, not_refused}
use Rattle.output.proofs.Saying.{says_that}
use Rattle.output.proofs.races.RacesListing.list.Goals as goal

-- Tables of these sizes are large enough for all counts.
pub returns-in_err-totals : goal.returns-in_err-totals
returns-in_err-totals c laid =
    let k = c.in_ok-keeper.keeper in
    let e = c.events.result.counts in
    let same = c.in_ok-keeper.ensures.counts ∙ c.counts.ensures ∙ sym c.events.ensures.counts in
    let told = c.in_ok-keeper.ensures.told in
    not_refused c.in_err-totals.field-0.0 e _ _ (few_latest e)
    (no_lack e _ _ (subst (λ (d : Counts). d.threads ≤ length k.threads.now) same told.threads_fit) (subst (λ d. slots d ≤ length k.objects.now) same told.objects_fit))
    c.in_err-totals.ensures.answer

pub returns : goal.returns
returns c laid =
    let w = c.in_ok-totals.ensures.ran in
    let t = c.in_ok-totals.totals in
    let s = c.new-sink.result in
    let cap : room s ≡ 3000 = c.new-sink.ensures.capacity in
    let free : room s - s.taken ≡ 3000 = omega (arith, c.new-sink.ensures.taken) in
    let l : Listed (coming c.events.result) c.back.result.now t.found t.written t.dropped =
    listed (coming c.events.result) w.told _ _ _ _ t.found t.written t.dropped c.back.result.now (coming_few c.events.result) refl free w.first_ones
    (ap (λ (x : Written). x.lines) c.new-sink.ensures.written) w.ran c.back.ensures.bytes in
    says_that vec_items (RacesListed (contents_of c.args.t.now).events) _ c.told.result
    (record { accepted = refl; findings = l.findings; exactly = subst (λ L. Lists L L l.findings) c.events.ensures.events l.exactly; printed = l.shown.printed })
    c.told.ensures

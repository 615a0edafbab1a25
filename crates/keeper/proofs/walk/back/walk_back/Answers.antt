use Rattle.std.proofs.Common.{◌≡◌, true, false, length, get_or, set, sym, ap, ◌∙◌, subst, subst₂}
use Rattle.std.specs.Iterator.Adapters.{rev_source}
use Rattle.std.specs.Option.{option_map}
use Rattle.std.specs.Slice.Iter.{iter_rest}
use Rattle.event.specs.declared.record.Event.{Event}
use Rattle.event.specs.Objects.{acquired}
use Rattle.order.proofs.Places.{blank}
use Rattle.stamp.specs.Slots.{slot}
use Rattle.keeper.specs.Walks.{flag, leads}
use Rattle.keeper.proofs.Walking.{Met, all_ahead, last_ahead, met_none, met_skip, met_more, met_found, met_all}
use Rattle.keeper.proofs.walk.back.walk_back.Goals as goal

pub loop-e-init : goal.loop-e-init
loop-e-init c =
    let counts = c.args.counts in
    let es = c.args.told.now in
    let all : iter_rest (rev_source c.into_iter-e-iterator.result) ≡ es =
    ap (λ s. iter_rest (rev_source s)) c.into_iter-e-iterator.ensures.into_iter_gives ∙ ap iter_rest c.rev-e-items.ensures.source ∙ c.iter.ensures.rest in
    record {
      split = all_ahead es _ all;
      met = λ p q sound lt lu. rw (all, p, q) (met_none counts es sound c.args.t c.args.u lt);
    }

pub loop-e-preserved : goal.loop-e-preserved
loop-e-preserved c =
    let counts = c.args.counts in
    let es = c.args.told.now in
    let ts = c.loop-e.threads in
    let os = c.loop-e.objects in
    let i = length (iter_rest (rev_source c.next.new.self)) in
    let last = last_ahead es _ _ c.in-Some.e.now c.loop-e.invariant.split c.in-Some.ensures.steps in
    record {
      split = last.split;
      met = λ p q sound lt lu.
          let met = subst (λ k. Met counts es c.args.t c.args.u k ts os) last.long (c.loop-e.invariant.met p q sound lt lu) in
          let step : leads counts ts os (get_or es i blank) ≡ false = rw last.here at (sym c.leads.ensures ∙ c.if-leads.false) in
          met_skip counts es sound c.args.t c.args.u i last.within ts os met step;
    }

pub loop-e-preserved-then-leads : goal.loop-e-preserved-then-leads
loop-e-preserved-then-leads c =
    let counts = c.args.counts in
    let es = c.args.told.now in
    let ts = c.loop-e.threads in
    let os = c.loop-e.objects in
    let i = length (iter_rest (rev_source c.next.new.self)) in
    let e = get_or es i blank in
    let last = last_ahead es _ _ c.in-Some.e.now c.loop-e.invariant.split c.in-Some.ensures.steps in
    record {
      split = last.split;
      met = λ p q sound lt lu.
          let met = subst (λ k. Met counts es c.args.t c.args.u k ts os) last.long (c.loop-e.invariant.met p q sound lt lu) in
          let step : leads counts ts os e ≡ true = rw last.here at (sym c.leads.ensures ∙ c.if-leads.true) in
          let thread : c.from.result ≡ e.thread = c.from.ensures ∙ ap (λ (v : Event). v.thread) last.here in
          let threads = c.flag-then-leads.ensures ∙ ap (λ k. set ts k true) (c.from-then-leads.ensures ∙ ap (λ (v : Event). v.thread) last.here) in
          let objects = c.flag-then-leads-2.ensures ∙ ap (flag os) (c.slot_of.ensures ∙ ap (option_map (slot counts)) (c.acquires.ensures ∙ ap acquired last.here)) in
          subst₂ (λ l m. Met counts es c.args.t c.args.u i l m) (sym threads) (sym objects)
          (met_more counts es sound c.args.t c.args.u i last.within ts os met step (λ s. c.if-from-u.false (thread ∙ s)));
    }

pub returns-then-from-u : goal.returns-then-from-u
returns-then-from-u c = λ p q sound lt lu.
    let counts = c.args.counts in
    let es = c.args.told.now in
    let ts = c.loop-e.threads in
    let os = c.loop-e.objects in
    let i = length (iter_rest (rev_source c.next.new.self)) in
    let e = get_or es i blank in
    let last = last_ahead es _ _ c.in-Some.e.now c.loop-e.invariant.split c.in-Some.ensures.steps in
    let begun = c.flag.ensures ∙ ap (λ l. set l c.args.t true) p in
    let met = subst (λ k. Met counts es c.args.t c.args.u k ts os) last.long (c.loop-e.invariant.met begun q sound lt lu) in
    let step : leads counts ts os e ≡ true = rw last.here at (sym c.leads.ensures ∙ c.if-leads.true) in
    let thread : e.thread ≡ c.args.u = sym (c.from.ensures ∙ ap (λ (v : Event). v.thread) last.here) ∙ c.if-from-u.true in
    rw (c.saturating_add.ensures, last.here) (met_found counts es sound c.args.t c.args.u i last.within ts os met step thread)

pub returns : goal.returns
returns c = λ p q sound lt lu.
    let counts = c.args.counts in
    let es = c.args.told.now in
    let begun = c.flag.ensures ∙ ap (λ l. set l c.args.t true) p in
    let met = c.loop-e.invariant.met begun q sound lt lu in
    met_all counts es sound c.args.t c.args.u c.loop-e.threads c.loop-e.objects (rw c.in-None.ensures.steps.0 at met)

-- What an event does to tables of stamps is what it does to the stamps of the threads and objects that the counts have.
use Rattle.std.specs.Prelude.{◌≡◌, ℕ, ◌<◌, ◌≤◌, Bool, true, false, cond, List, [], length, get_or, Some, None, Option, ◌==◌, nat_lt, slice_index_or, slice_set}
use Rattle.std.proofs.Math.Path.{refl, sym, ap}
use Rattle.std.proofs.Common.{ap₂, ◌∙◌, arith, get_or-set_same, get_or-set_other}
use borrow.Author.Tests.{eqb-true, eqb-false, lt-ltb}
use Rattle.std.proofs.lemmas.List.{get_or_default}
use Rattle.std.proofs.lemmas.Bool.{cond-true}
use Rattle.std.specs.Option.{option_map}
use Rattle.event.proofs.Clearing.{cleared_at}
use Rattle.event.specs.declared.counts.Counts.{Counts}
use Rattle.event.specs.declared.object.Object.{Object}
use Rattle.event.specs.declared.record.Event.{Event}
use Rattle.event.specs.Objects.{acquired, released}
use Rattle.event.specs.Ranges.{in_range}
use Rattle.order.specs.Stamps.{Laws, Deed, State, entered, after, left_at, step, same_object}
use Rattle.order.proofs.Objects.{same_object_true, same_object_eq}
use Rattle.order.proofs.Stamping.{sums_none, sums_push, sums_same}
use Rattle.stamp.specs.Slots.{slot, slots, Declares}
use Rattle.stamp.specs.Tables.{cleared, stamped, Means, Adds, joined_in, joined_into, stamp_after, threads_after, objects_after}
use Rattle.event.proofs.Offering.{in_range_parts}
use Rattle.stamp.specs.Slotting.{slot_once, slot_within, acquired_declared, released_declared}

module _ {S : Type 0} {below : S → S → Type 0} {join : S → S → S} {least : S} (laws : Laws below join least) (c : Counts) (ts os : List S) (threads_fit : c.threads ≤ length ts) (objects_fit : slots c ≤ length os) where
  pub means_none : Means below least c [] (cleared c.threads least ts) (cleared (slots c) least os)
  means_none =
      sums_none laws (λ t. t < c.threads) (Declares c) (stamped least c (cleared c.threads least ts) (cleared (slots c) least os))
      (λ t lt. cleared_at c.threads least ts t lt threads_fit)
      (λ o d. cleared_at (slots c) least os (slot c o) (slot_within c o d) objects_fit)

  module _ (e : Event) (v : S) (ranged : in_range c e ≡ true) where
    old : State S
    old = stamped least c ts os

    new : S
    new = stamp_after join least c ts os e v

    deed : Deed S
    deed = record { event = e; gives = v }

    joined_in_same : (a : Option Object) (s : S) → ((o : Object) → a ≡ Some o → Declares c o) → joined_in join os (option_map (slot c) a) s ≡ entered join (stamped least c ts os) a s
    joined_in_same None s h = refl
    joined_in_same (Some o) s h =
        let lt : slot c o < length os = omega (arith, slot_within c o (h o refl)) in
        cond-true (nat_lt (slot c o) (length os)) (join s (slice_index_or os (slot c o) s)) s (lt-ltb _ _ lt)
        ∙ ap (join s) (get_or_default os (slot c o) s least lt)

    new_same : new ≡ after join old deed
    unfolding old new deed
    new_same = ap (λ s. join s v) (joined_in_same (acquired e) (slice_index_or ts e.thread least) (acquired_declared c e ranged))

    thread_same : (t : ℕ) → t < c.threads → (step join old deed).threads t ≡ slice_index_or (slice_set ts e.thread new) t least
    unfolding old deed
    thread_same t lt = go (e.thread == t) refl
      where
        go : (b : Bool) → (e.thread == t) ≡ b → cond b (after join old deed) (slice_index_or ts t least) ≡ slice_index_or (slice_set ts e.thread new) t least
        go true p =
            let s = eqb-true _ _ p in
            sym new_same ∙ sym (get_or-set_same ts e.thread new least (omega (arith, s))) ∙ ap (λ k. get_or (slice_set ts e.thread new) k least) s
        go false p = sym (get_or-set_other ts e.thread t new least (λ s. eqb-false _ _ p (sym s)))

    joined_into_same : (a : Option Object) → ((o : Object) → a ≡ Some o → Declares c o) → (o : Object) → Declares c o →
        left_at join a (after join old deed) o (slice_index_or os (slot c o) least) ≡ slice_index_or (joined_into join os (option_map (slot c) a) new) (slot c o) least
    joined_into_same None h o d = refl
    joined_into_same (Some p) h o d = go (same_object p o) refl
      where
        lt : slot c p < length os
        lt = omega (arith, slot_within c p (h p refl))

        go : (b : Bool) → same_object p o ≡ b → cond b (join (slice_index_or os (slot c o) least) (after join old deed)) (slice_index_or os (slot c o) least) ≡ slice_index_or (slice_set os (slot c p) (join (slice_index_or os (slot c p) new) new)) (slot c o) least
        go true q =
            let s = same_object_true p o q in
            ap₂ join (ap (λ z. get_or os (slot c z) least) (sym s) ∙ get_or_default os (slot c p) least new lt) (sym new_same)
            ∙ sym (get_or-set_same os (slot c p) (join (slice_index_or os (slot c p) new) new) least lt)
            ∙ ap (λ z. get_or (slice_set os (slot c p) (join (slice_index_or os (slot c p) new) new)) (slot c z) least) s
        go false q = sym (get_or-set_other os (slot c p) (slot c o) (join (slice_index_or os (slot c p) new) new) least (λ z. borrow.Author.Tests.clash (sym q ∙ same_object_eq p o (sym (slot_once c o p d (h p refl) z)))))

    pub adds : Adds below least c e v ts os (threads_after join least c ts os e v) (objects_after join least c ts os e v)
    unfolding old new deed
    adds xs rising h =
        sums_same laws
        thread_same
        (joined_into_same (released e) (released_declared c e ranged))
        (sums_push laws xs old deed rising (in_range_parts c e ranged).0 (acquired_declared c e ranged) h)

-- the stamp that the parts give, one after another
pub stamp_parts : {S : Type 0} (join : S → S → S) (least : S) (c : Counts) (ts os : List S) (e : Event) (v before got mine : S) (t : ℕ) (a : Option ℕ) → t ≡ e.thread → before ≡ slice_index_or ts t least → a ≡ option_map (slot c) (acquired e) → got ≡ joined_in join os a before → mine ≡ join got v → mine ≡ stamp_after join least c ts os e v
stamp_parts join least c ts os e v before got mine t a te be ae ge ne =
    ne ∙ ap (λ s. join s v) (ge ∙ ap₂ (joined_in join os) ae (be ∙ ap (λ k. get_or ts k least) te))

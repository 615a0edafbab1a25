-- A walk backwards finds the entry. At an index i it has met the events from i on that lead to t: flags are up for their threads, for t
-- itself, and for the objects that they acquire. An event leads to t exactly where its first step leads to one of those.
use Rattle.std.proofs.Common.{◌≡◌, ℕ, suc, ◌+◌, ◌-◌, ◌^◌, ◌<◌, ◌≤◌, min, Bool, true, false, ◌⊎◌, List, [], ◌∷◌, ◌++◌, length, append_assoc, add-zero, length-append, get_or, drop, set, replicate, Some, None, Option, sym, refl, ap, ◌∙◌, subst, inl, inr, ⊎_elim, arith, length-set, drop-cons, get_or-set_other, get_or-set_same}
use mathlib.Core.List.Memᴰ
use Rattle.std.proofs.Math.Seq.{drop-length, drop-append_seam}
use borrow.Author.Tests.{both_ways, clash}
use Rattle.std.proofs.lemmas.List.{append-nil, get_or_past, get_or-drop, get_or-replicate, length-replicate, length_push}
use Rattle.std.proofs.lemmas.Bool.{cases_eq, cases_lt, or_cases, or_left, or_right}
use Rattle.std.specs.Option.{option_map}
use Rattle.event.specs.declared.counts.Counts.{Counts}
use Rattle.event.specs.declared.object.Object.{Object}
use Rattle.event.specs.declared.record.Event.{Event}
use Rattle.event.specs.Entries.{Reaches, IsEntry, nothing, highest}
use Rattle.event.specs.Objects.{acquired, released}
use Rattle.event.specs.Order.{◌∈◌, Linked, by_thread, by_object, start, more, Acquires}
use Rattle.event.specs.Thins.{Placed, Sound}
use Rattle.order.proofs.Chaining.{chain_first, chain_join, chain_uncons}
use Rattle.order.proofs.Places.{blank, at_in, drop_in, drop_later, later_drop}
use Rattle.stamp.specs.Slots.{slot, slots, Declares}
use Rattle.stamp.specs.ClocksLemmas.{placed_in}
use Rattle.stamp.specs.Slotting.{slot_once, slot_within, placed_acquired, placed_released}
use Rattle.keeper.specs.Walks.{flagged, flag, leads}

-- an event from the index i on that leads to t
pub record MetOne (L : List Event) (t i : ℕ) (P : Event → Type 0) : Type 0 where
  pub event : Event
  pub here : event ∈ drop i L
  pub has : P event
  pub reaches : Reaches L event t

pub record Met (c : Counts) (L : List Event) (t u i : ℕ) (ts os : List Bool) : Type 0 where
  pub wide_threads : c.threads ≤ length ts
  pub wide_objects : slots c ≤ length os
  pub own : get_or ts t false ≡ true
  pub thread_from : (x : ℕ) → get_or ts x false ≡ true → (x ≡ t) ⊎ MetOne L t i (λ f. f.thread ≡ x)
  pub thread_to : (f : Event) → f ∈ drop i L → Reaches L f t → get_or ts f.thread false ≡ true
  pub object_from : (o : Object) → Declares c o → get_or os (slot c o) false ≡ true → MetOne L t i (λ f. Acquires f o)
  pub object_to : (f : Event) → f ∈ drop i L → Reaches L f t → (o : Object) → Acquires f o → get_or os (slot c o) false ≡ true
  pub none : (f : Event) → f ∈ drop i L → f.thread ≡ u → Reaches L f t → ⊥

-- ---- flags

down : (n k : ℕ) → get_or (replicate n false) k false ≡ true → ⊥
down n k h = ⊎_elim (λ lt. both_ways _ (get_or-replicate n k false false lt) h) (λ le. both_ways _ (get_or_past (replicate n false) k false (omega (arith, length-replicate n false))) h) (cases_lt k n)

raised : (fs : List Bool) (k : ℕ) → k < length fs → get_or (set fs k true) k false ≡ true
raised fs k lt = get_or-set_same fs k true false lt

-- a flag that is up stays up
stays_up : (fs : List Bool) (k j : ℕ) → get_or fs j false ≡ true → get_or (set fs k true) j false ≡ true
stays_up fs k j h =
    ⊎_elim
    (λ s. raised_at s (cases_lt k (length fs)))
    (λ ne. get_or-set_other fs k j true false ne ∙ h)
    (cases_eq j k)
  where
    raised_at : j ≡ k → (k < length fs) ⊎ (length fs ≤ k) → get_or (set fs k true) j false ≡ true
    raised_at s (inl lt) = subst (λ n. get_or (set fs k true) n false ≡ true) (sym s) (raised fs k lt)
    raised_at s (inr le) = absurd (both_ways _ (get_or_past fs j false (omega arith)) h)

-- a flag that is up was raised here, or was up before
was_up : (fs : List Bool) (k j : ℕ) → get_or (set fs k true) j false ≡ true → (j ≡ k) ⊎ (get_or fs j false ≡ true)
was_up fs k j h = ⊎_elim inl (λ ne. inr (sym (get_or-set_other fs k j true false ne) ∙ h)) (cases_eq j k)

flag_stays : (fs : List Bool) (s : Option ℕ) (j : ℕ) → get_or fs j false ≡ true → get_or (flag fs s) j false ≡ true
flag_stays fs None j h = h
flag_stays fs (Some k) j h = stays_up fs k j h

length_flag : (fs : List Bool) (s : Option ℕ) → length (flag fs s) ≡ length fs
length_flag fs None = refl
length_flag fs (Some k) = length-set fs k true

module _ (c : Counts) (L : List Event) (sound : Sound c L) (t u : ℕ) where
  -- before the first step
  pub met_none : t < c.threads → Met c L t u (length L) (set (replicate 16 false) t true) (replicate 544 false)
  met_none lt = record {
    wide_threads = omega (arith, c.limits, length-set (replicate 16 false) t true, length-replicate 16 false);
    wide_objects = omega (arith, c.limits, length-replicate 544 false);
    own = raised (replicate 16 false) t (omega (arith, c.limits, length-replicate 16 false));
    thread_from = λ x h. ⊎_elim inl (λ k. absurd (down 16 x k)) (was_up (replicate 16 false) t x h);
    thread_to = λ f m r. absurd (nobody m);
    object_from = λ o d h. absurd (down 544 (slot c o) h);
    object_to = λ f m r o a. absurd (nobody m);
    none = λ f m s r. nobody m;
  }
    where
      nobody : {f : Event} → f ∈ drop (length L) L → ⊥
      nobody {f} m = Memᴰ.not-nil (subst (λ M. f ∈ M) (drop-length L) m)

  module _ (i : ℕ) (lt : i < length L) (ts os : List Bool) (met : Met c L t u (suc i) ts os) where
    abbrev e : Event
    e = get_or L i blank

    e_in : e ∈ L
    e_in = at_in L i blank lt

    e_placed : Placed c e
    e_placed = placed_in c L sound.placed e_in

    -- a step to an event that was met
    by_met : {f : Event} → f ∈ drop (suc i) L → Reaches L f t → Linked e f → Reaches L e t
    by_met m r k = record { to = r.to; of = r.of; chain = chain_join (more (start e_in) (drop_in L (suc i) m) (drop_later L sound.rising i lt m) k) r.chain }

    leads_by_thread : (e.thread ≡ t) ⊎ MetOne L t (suc i) (λ f. f.thread ≡ e.thread) → Reaches L e t
    leads_by_thread (inl s) = record { to = e; of = s; chain = start e_in }
    leads_by_thread (inr f) = by_met f.here f.reaches (by_thread (sym f.has))

    leads_by_object : (r : Option Object) → released e ≡ r → flagged os (option_map (slot c) r) ≡ true → Reaches L e t
    leads_by_object None q h = absurd (clash h)
    leads_by_object (Some o) q h = let f = met.object_from o (placed_released c e e_placed o q) h in by_met f.here f.reaches (by_object o q f.has)

    pub leads_reaches : leads c ts os e ≡ true → Reaches L e t
    leads_reaches h =
        ⊎_elim
        (λ p. leads_by_thread (met.thread_from e.thread p))
        (λ p. leads_by_object (released e) refl p)
        (or_cases (get_or ts e.thread false) (flagged os (option_map (slot c) (released e))) h)

    first_step : {f : Event} → f ∈ drop (suc i) L → Reaches L f t → Linked e f → leads c ts os e ≡ true
    first_step {f} m r (by_thread s) =
        or_left (get_or ts e.thread false) (flagged os (option_map (slot c) (released e))) (subst (λ x. get_or ts x false ≡ true) (sym s) (met.thread_to f m r))
    first_step {f} m r (by_object o q a) =
        or_right (get_or ts e.thread false) (flagged os (option_map (slot c) (released e))) (subst (λ s. flagged os (option_map (slot c) s) ≡ true) (sym q) (met.object_to f m r o a))

    pub reaches_leads : Reaches L e t → leads c ts os e ≡ true
    reaches_leads r =
        ⊎_elim
        (λ s. or_left (get_or ts e.thread false) (flagged os (option_map (slot c) (released e))) (subst (λ x. get_or ts x false ≡ true) (sym (ap (λ (v : Event). v.thread) s ∙ r.of)) met.own))
        (λ h. ⊎_elim
        (λ le. absurd (omega (arith, le, h.2)))
        (λ m. first_step m (record { to = r.to; of = r.of; chain = h.4 }) h.3)
        (later_drop L sound.rising i lt h.1))
        (chain_uncons r.chain)

    -- the events from i on are that at i and those behind it
    here_or_later : {f : Event} → f ∈ drop i L → (f ≡ e) ⊎ (f ∈ drop (suc i) L)
    here_or_later {f} m = Memᴰ.cases_cons (subst (λ M. f ∈ M) (drop-cons L i blank lt) m)

    here_in : e ∈ drop i L
    here_in = subst (λ M. e ∈ M) (sym (drop-cons L i blank lt)) (Memᴰ.head refl)

    later_in : {f : Event} → f ∈ drop (suc i) L → f ∈ drop i L
    later_in {f} m = subst (λ M. f ∈ M) (sym (drop-cons L i blank lt)) (Memᴰ.tail m)

    earlier : {P : Event → Type 0} → MetOne L t (suc i) P → MetOne L t i P
    earlier f = record { event = f.event; here = later_in f.here; has = f.has; reaches = f.reaches }

    -- an event that does not lead to t is passed over
    pub met_skip : leads c ts os e ≡ false → Met c L t u i ts os
    met_skip no_step = record {
      wide_threads = met.wide_threads;
      wide_objects = met.wide_objects;
      own = met.own;
      thread_from = λ x h. ⊎_elim inl (λ f. inr (earlier f)) (met.thread_from x h);
      thread_to = λ f m r. ⊎_elim (λ s. absurd (not_here s r)) (λ n. met.thread_to f n r) (here_or_later m);
      object_from = λ o d h. earlier (met.object_from o d h);
      object_to = λ f m r o a. ⊎_elim (λ s. absurd (not_here s r)) (λ n. met.object_to f n r o a) (here_or_later m);
      none = λ f m s r. ⊎_elim (λ p. not_here p r) (λ n. met.none f n s r) (here_or_later m);
    }
      where
        not_here : {f : Event} → f ≡ e → Reaches L f t → ⊥
        not_here s r = both_ways _ no_step (reaches_leads (subst (λ v. Reaches L v t) s r))

    object_raised : (a : Option Object) → acquired e ≡ a → (o : Object) → Declares c o → get_or (flag os (option_map (slot c) a)) (slot c o) false ≡ true → Reaches L e t → MetOne L t i (λ f. Acquires f o)
    object_raised None q o d h r = earlier (met.object_from o d h)
    object_raised (Some p) q o d h r =
        ⊎_elim
        (λ s. record { event = e; here = here_in; has = q ∙ ap Some (sym (slot_once c o p d (placed_acquired c e e_placed p q) s)); reaches = r })
        (λ k. earlier (met.object_from o d k))
        (was_up os (slot c p) (slot c o) h)

    object_own : (o : Object) → Acquires e o → get_or (flag os (option_map (slot c) (acquired e))) (slot c o) false ≡ true
    object_own o a =
        subst (λ s. get_or (flag os (option_map (slot c) s)) (slot c o) false ≡ true) (sym a)
        (raised os (slot c o) (omega (arith, slot_within c o (placed_acquired c e e_placed o a), met.wide_objects)))

    -- an event of another thread that leads to t is met
    pub met_more : leads c ts os e ≡ true → (e.thread ≡ u → ⊥) → Met c L t u i (set ts e.thread true) (flag os (option_map (slot c) (acquired e)))
    met_more step other = record {
      wide_threads = omega (arith, met.wide_threads, length-set ts e.thread true);
      wide_objects = omega (arith, met.wide_objects, length_flag os (option_map (slot c) (acquired e)));
      own = stays_up ts e.thread t met.own;
      thread_from = λ x h.
          ⊎_elim
          (λ s. inr (record { event = e; here = here_in; has = sym s; reaches = r }))
          (λ k. ⊎_elim inl (λ f. inr (earlier f)) (met.thread_from x k))
          (was_up ts e.thread x h);
      thread_to = λ f m q.
          ⊎_elim
          (λ s. subst (λ (v : Event). get_or (set ts e.thread true) v.thread false ≡ true) (sym s) (raised ts e.thread (omega (arith, e_placed.thread, met.wide_threads))))
          (λ n. stays_up ts e.thread f.thread (met.thread_to f n q))
          (here_or_later m);
      object_from = λ o d h. object_raised (acquired e) refl o d h r;
      object_to = λ f m q o a.
          ⊎_elim
          (λ s. object_own o (subst (λ v. Acquires v o) s a))
          (λ n. flag_stays os (option_map (slot c) (acquired e)) (slot c o) (met.object_to f n q o a))
          (here_or_later m);
      none = λ f m s q. ⊎_elim (λ p. other (ap (λ (v : Event). v.thread) (sym p) ∙ s)) (λ n. met.none f n s q) (here_or_later m);
    }
      where
        r : Reaches L e t
        r = leads_reaches step

    -- the first event of u that is met is the latest one that leads to t
    pub met_found : leads c ts os e ≡ true → e.thread ≡ u → IsEntry L t u (min (e.place + 1) (2 ^ 32 - 1))
    met_found step own =
        highest e own (leads_reaches step) (omega (arith, e_placed.place))
        (λ f s r. ⊎_elim (λ le. le) (λ m. absurd (met.none f m s r)) (later_drop L sound.rising i lt (chain_first r.chain)))

  -- where none of u is met, there is none
  pub met_all : (ts os : List Bool) → Met c L t u 0 ts os → IsEntry L t u 0
  met_all ts os met = nothing refl (λ f s r. met.none f (chain_first r.chain) s r)

-- ---- walking back

-- Of the events of a list those at its front are still ahead, and e is the last of these.
pub record LastAhead (L ahead rest : List Event) (e : Event) : Type 0 where
  pub long : length ahead ≡ suc (length rest)
  pub within : length rest < length L
  pub here : e ≡ get_or L (length rest) blank
  pub split : L ≡ rest ++ drop (length rest) L

pub last_ahead : (L ahead rest : List Event) (e : Event) → L ≡ ahead ++ drop (length ahead) L → ahead ≡ rest ++ e ∷ [] → LastAhead L ahead rest e
last_ahead L ahead rest e split last =
    let behind = drop (length ahead) L in
    let whole : L ≡ rest ++ e ∷ behind = split ∙ ap (λ l. l ++ behind) last ∙ append_assoc rest (e ∷ []) behind in
    let from : drop (length rest) L ≡ e ∷ behind = ap (drop (length rest)) whole ∙ drop-append_seam rest (e ∷ behind) in
    record {
      long = omega (arith, ap length last, length_push rest e);
      within = omega (arith, ap length whole, length-append rest (e ∷ behind));
      here = sym (sym (get_or-drop (length rest) L 0 blank ∙ ap (λ k. get_or L k blank) (add-zero (length rest))) ∙ ap (λ l. get_or l 0 blank) from);
      split = whole ∙ ap (λ l. rest ++ l) (sym from);
    }

-- before the first event is met all are ahead
pub all_ahead : (L ahead : List Event) → ahead ≡ L → L ≡ ahead ++ drop (length ahead) L
all_ahead L ahead all = subst (λ l. L ≡ l ++ drop (length l) L) (sym all) (sym (ap (λ l. L ++ l) (drop-length L) ∙ append-nil L))

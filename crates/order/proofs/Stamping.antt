-- The stamp law: after each event a stamp is the least upper bound of what the events behind it give.
-- A chain to the new event either starts there or takes its last step from an older event, in the same thread or by an object that the
-- new event acquires: the thread's old stamp and the object's bound what those give, and the contribution is joined in.
-- What a new release leaves at its object is behind the event itself.
use Rattle.std.proofs.Common.{◌≡◌, ℕ, Bool, true, false, cond, eqb, List, [], ◌∷◌, ◌++◌, Some, None, Option, sym, refl, ap, ◌∙◌, subst, subst₂, ⊎_elim, append_assoc, append-nil, eqb-true}
use mathlib.Core.List.Memᴰ
use mathlib.Core.List.{Memᴰ}
use borrow.Author.Tests.{eqb-false, clash}
use Rattle.event.specs.declared.object.Object.{Object}
use Rattle.event.specs.declared.record.Event.{Event}
use Rattle.event.specs.Objects.{released, acquired}
use Rattle.event.specs.Order.{◌∈◌, Releases, Acquires, by_thread, by_object, Chain, start, more}
use Rattle.event.specs.Thins.{Rising}
use Rattle.event.specs.Entries.{Reaches}
use Rattle.order.specs.Stamps.{Laws, Deed, events, State, same_object, entered, after, left_at, step, run, fresh, Behind, Leaves, Bound, Sums, All}
use Rattle.order.proofs.Behind.{behind_iff, bound_iff}
use Rattle.order.proofs.Chaining.{chain_first, chain_last}
use Rattle.order.proofs.Front.{rising_front}
use Rattle.order.proofs.Newest.{Comes, itself, by_step, newest_in, old_or_new, chain_on, older, not_old, chain_old, step_to_new, comes}
use Rattle.order.proofs.Objects.{same_object_true, same_object_eq}

some_same : {o p : Object} → ◌≡◌ {A = Option Object} (Some o) (Some p) → o ≡ p
some_same e = cc

pub events_push : {S : Type 0} (xs : List (Deed S)) (x : Deed S) → events (xs ++ x ∷ []) ≡ events xs ++ x.event ∷ []
events_push [] x = refl
events_push (y ∷ xs) x = ap (λ M. y.event ∷ M) (events_push xs x)

pub event_in : {S : Type 0} (xs : List (Deed S)) {y : Deed S} → Memᴰ y xs → y.event ∈ events xs
event_in [] m = absurd (Memᴰ.not-nil m)
event_in {S} (x ∷ xs) m = ⊎_elim (λ s. Memᴰ.head (ap (λ (d : Deed S). d.event) s)) (λ n. Memᴰ.tail (event_in xs n)) (Memᴰ.cases_cons m)

module _ {S : Type 0} {below : S → S → Type 0} {merged : S → S → S} {least : S} (laws : Laws below merged least) where
  -- after the deeds xs, whose events are L, the stamps are what they should be
  record Right (Thread : ℕ → Type 0) (Used : Object → Type 0) (xs : List (Deed S)) (L : List Event) (s : State S) : Type 0 where
    listed : (x : Deed S) → Memᴰ x xs → x.event ∈ L
    thread : (t : ℕ) → Thread t → Bound below xs (λ e. Reaches L e t) (s.threads t)
    object : (o : Object) → Used o → Bound below xs (λ e. Leaves L e o) (s.objects o)

  entered_old : (s : State S) (a : Option Object) (y : S) → below y (entered merged s a y)
  entered_old s None y = laws.reflexive y
  entered_old s (Some o) y = laws.left y (s.objects o)

  entered_object : (s : State S) (a : Option Object) (y : S) (o : Object) → a ≡ Some o → below (s.objects o) (entered merged s a y)
  entered_object s None y o p = cc
  entered_object s (Some q) y o p = subst (λ v. below (s.objects v) (merged y (s.objects q))) (some_same p) (laws.right y (s.objects q))

  entered_tight : (s : State S) (a : Option Object) (y b : S) → below y b → ((o : Object) → a ≡ Some o → below (s.objects o) b) → below (entered merged s a y) b
  entered_tight s None y b h k = h
  entered_tight s (Some o) y b h k = laws.tight y (s.objects o) b h (k o refl)

  module _ {Thread : ℕ → Type 0} {Used : Object → Type 0} (xs : List (Deed S)) (L : List Event) (s : State S) (h : Right Thread Used xs L s) (x : Deed S) (r : Rising (L ++ x.event ∷ []))
      (own_used : Thread x.event.thread) (got_used : (o : Object) → Acquires x.event o → Used o) where
    deed_old : (y : Deed S) → Memᴰ y (xs ++ x ∷ []) → y.event ∈ L → Memᴰ y xs
    deed_old y m i =
        ⊎_elim (λ n. n) (λ n. absurd (not_old L x.event r (Memᴰ.cast (ap (λ (d : Deed S). d.event) (sym (Memᴰ.eq_of_singleton n))) i))) (Memᴰ.append_cases xs m)

    deed_new : (y : Deed S) → Memᴰ y (xs ++ x ∷ []) → y.event ≡ x.event → y ≡ x
    deed_new y m e =
        ⊎_elim (λ n. absurd (not_old L x.event r (Memᴰ.cast (sym e) (h.listed y n)))) (λ n. Memᴰ.eq_of_singleton n) (Memᴰ.append_cases xs m)

    reaches_on : {e : Event} {t : ℕ} → Reaches L e t → Reaches (L ++ x.event ∷ []) e t
    reaches_on c = record { to = c.to; of = c.of; chain = chain_on x.event c.chain }

    thread_new : Bound below (xs ++ x ∷ []) (λ e. Reaches (L ++ x.event ∷ []) e x.event.thread) (after merged s x)
    thread_new = record { upper = up; least = low }
      where
        own : S
        own = s.threads x.event.thread

        got : S
        got = entered merged s (acquired x.event) own

        from_own : (y : Deed S) → below y.gives own → below y.gives (after merged s x)
        from_own y b = laws.transitive _ _ _ b (laws.transitive _ _ _ (entered_old s (acquired x.event) own) (laws.left got x.gives))

        by_last : (y : Deed S) → Memᴰ y (xs ++ x ∷ []) → Comes L x.event y.event → below y.gives (after merged s x)
        by_last y m (itself e) = subst (λ (v : Deed S). below v.gives (after merged s x)) (sym (deed_new y m e)) (laws.right got x.gives)
        by_last y m (by_step {f} c (by_thread t)) = from_own y ((h.thread x.event.thread own_used).upper y (deed_old y m (chain_first c)) (record { to = f; of = t; chain = c }))
        by_last y m (by_step {f} c (by_object o q a)) =
            laws.transitive _ _ _
            ((h.object o (got_used o a)).upper y (deed_old y m (chain_first c)) (record { by = f; frees = q; chain = c }))
            (laws.transitive _ _ _ (entered_object s (acquired x.event) own o a) (laws.left got x.gives))

        up : (y : Deed S) → Memᴰ y (xs ++ x ∷ []) → Reaches (L ++ x.event ∷ []) y.event x.event.thread → below y.gives (after merged s x)
        up y m c =
            ⊎_elim
            (λ i. let d = chain_old L x.event r i c.chain in
            from_own y ((h.thread x.event.thread own_used).upper y (deed_old y m (chain_first d)) (record { to = c.to; of = c.of; chain = d })))
            (λ e. by_last y m (comes L x.event r e c.chain))
            (old_or_new L (chain_last c.chain))

        low : (b : S) → ((y : Deed S) → Memᴰ y (xs ++ x ∷ []) → Reaches (L ++ x.event ∷ []) y.event x.event.thread → below y.gives b) → below (after merged s x) b
        low b k =
            laws.tight got x.gives b
            (entered_tight s (acquired x.event) own b
            ((h.thread x.event.thread own_used).least b (λ y m c. k y (Memᴰ.append_left (x ∷ []) m) (reaches_on c)))
            (λ o p. (h.object o (got_used o p)).least b (λ y m c. k y (Memᴰ.append_left (x ∷ []) m) (record { to = x.event; of = refl; chain = step_to_new L x.event r c.chain (by_object o c.frees p) }))))
            (k x (Memᴰ.append_right xs (Memᴰ.head refl)) (record { to = x.event; of = refl; chain = start (newest_in L x.event) }))

    thread_old : (t : ℕ) → Thread t → (x.event.thread ≡ t → ⊥) → Bound below (xs ++ x ∷ []) (λ e. Reaches (L ++ x.event ∷ []) e t) (s.threads t)
    thread_old t here ne = record {
      upper = λ y m c.
          ⊎_elim
          (λ i. let d = chain_old L x.event r i c.chain in (h.thread t here).upper y (deed_old y m (chain_first d)) (record { to = c.to; of = c.of; chain = d }))
          (λ e. absurd (ne (ap (λ (v : Event). v.thread) (sym e) ∙ c.of)))
          (old_or_new L (chain_last c.chain));
      least = λ b k. (h.thread t here).least b (λ y m c. k y (Memᴰ.append_left (x ∷ []) m) (reaches_on c));
    }

    thread_step : (t : ℕ) → Thread t → (b : Bool) → eqb x.event.thread t ≡ b → Bound below (xs ++ x ∷ []) (λ e. Reaches (L ++ x.event ∷ []) e t) (cond b (after merged s x) (s.threads t))
    thread_step t here true p = subst (λ v. Bound below (xs ++ x ∷ []) (λ e. Reaches (L ++ x.event ∷ []) e v) (after merged s x)) (eqb-true _ _ p) thread_new
    thread_step t here false p = thread_old t here (eqb-false _ _ p)

    leaves_on : {e : Event} {o : Object} → Leaves L e o → Leaves (L ++ x.event ∷ []) e o
    leaves_on c = record { by = c.by; frees = c.frees; chain = chain_on x.event c.chain }

    -- where the thread of the new event is reached, so is the event
    reaches_new : {e : Event} → Reaches (L ++ x.event ∷ []) e x.event.thread → Chain (L ++ x.event ∷ []) e x.event
    reaches_new {e} c =
        ⊎_elim
        (λ i. more c.chain (newest_in L x.event) (older L x.event r i) (by_thread c.of))
        (λ p. subst (λ v. Chain (L ++ x.event ∷ []) e v) p c.chain)
        (old_or_new L (chain_last c.chain))

    object_new : (o : Object) → Used o → Releases x.event o → Bound below (xs ++ x ∷ []) (λ e. Leaves (L ++ x.event ∷ []) e o) (merged (s.objects o) (after merged s x))
    object_new o here q = record {
      upper = λ y m c.
          ⊎_elim
          (λ i. let d = chain_old L x.event r i c.chain in
          laws.transitive _ _ _ ((h.object o here).upper y (deed_old y m (chain_first d)) (record { by = c.by; frees = c.frees; chain = d })) (laws.left (s.objects o) (after merged s x)))
          (λ e. laws.transitive _ _ _ (thread_new.upper y m (record { to = c.by; of = ap (λ (v : Event). v.thread) e; chain = c.chain })) (laws.right (s.objects o) (after merged s x)))
          (old_or_new L (chain_last c.chain));
      least = λ b k.
          laws.tight (s.objects o) (after merged s x) b
          ((h.object o here).least b (λ y m c. k y (Memᴰ.append_left (x ∷ []) m) (leaves_on c)))
          (thread_new.least b (λ y m c. k y m (record { by = x.event; frees = q; chain = reaches_new c })));
    }

    object_old : (o : Object) → Used o → (Releases x.event o → ⊥) → Bound below (xs ++ x ∷ []) (λ e. Leaves (L ++ x.event ∷ []) e o) (s.objects o)
    object_old o here ne = record {
      upper = λ y m c.
          ⊎_elim
          (λ i. let d = chain_old L x.event r i c.chain in (h.object o here).upper y (deed_old y m (chain_first d)) (record { by = c.by; frees = c.frees; chain = d }))
          (λ e. absurd (ne (subst (λ v. Releases v o) e c.frees)))
          (old_or_new L (chain_last c.chain));
      least = λ b k. (h.object o here).least b (λ y m c. k y (Memᴰ.append_left (x ∷ []) m) (leaves_on c));
    }

    object_at : (o p : Object) → Used o → released x.event ≡ Some p → (b : Bool) → same_object p o ≡ b →
        Bound below (xs ++ x ∷ []) (λ e. Leaves (L ++ x.event ∷ []) e o) (cond b (merged (s.objects o) (after merged s x)) (s.objects o))
    object_at o p here q true e = object_new o here (q ∙ ap Some (same_object_true p o e))
    object_at o p here q false e = object_old o here (λ z. clash (sym e ∙ same_object_eq p o (some_same (sym q ∙ z))))

    object_step : (o : Object) → Used o → (a : Option Object) → released x.event ≡ a → Bound below (xs ++ x ∷ []) (λ e. Leaves (L ++ x.event ∷ []) e o) (left_at merged a (after merged s x) o (s.objects o))
    object_step o here None q = object_old o here (λ z. cc (sym q ∙ z))
    object_step o here (Some p) q = object_at o p here q (same_object p o) refl

    step_right : Right Thread Used (xs ++ x ∷ []) (L ++ x.event ∷ []) (step merged s x)
    step_right = record {
      listed = λ y m.
          ⊎_elim
          (λ n. Memᴰ.append_left (x.event ∷ []) (h.listed y n))
          (λ n. Memᴰ.append_right L (Memᴰ.head (ap (λ (d : Deed S). d.event) (Memᴰ.eq_of_singleton n))))
          (Memᴰ.append_cases xs m);
      thread = λ t here. thread_step t here (eqb x.event.thread t) refl;
      object = λ o here. object_step o here (released x.event) refl;
    }

  run_right : (ys xs : List (Deed S)) (L : List Event) (s : State S) → Right All All xs L s → Rising (L ++ events ys) → Right All All (xs ++ ys) (L ++ events ys) (run merged s ys)
  run_right [] xs L s h r = subst₂ (λ v w. Right All All v w s) (sym (append-nil xs)) (sym (append-nil L)) h
  run_right (y ∷ ys) xs L s h r =
      let r' : Rising ((L ++ y.event ∷ []) ++ events ys) = subst Rising (sym (append_assoc L (y.event ∷ []) (events ys))) r in
      subst₂ (λ v w. Right All All v w (run merged (step merged s y) ys)) (append_assoc xs (y ∷ []) ys) (append_assoc L (y.event ∷ []) (events ys))
      (run_right ys (xs ++ y ∷ []) (L ++ y.event ∷ []) (step merged s y) (step_right xs L s h y (rising_front (L ++ y.event ∷ []) (events ys) r') tt (λ o a. tt)) r')

  start_right : Right All All [] [] (fresh least)
  start_right = record {
    listed = λ x m. absurd (Memᴰ.not-nil m);
    thread = λ t u. record { upper = λ x m c. absurd (Memᴰ.not-nil m); least = λ b k. laws.bottom b };
    object = λ o u. record { upper = λ x m c. absurd (Memᴰ.not-nil m); least = λ b k. laws.bottom b };
  }

  pub stamps_reached : (xs : List (Deed S)) → Rising (events xs) → (t : ℕ) → Bound below xs (λ e. Reaches (events xs) e t) ((run merged (fresh least) xs).threads t)
  stamps_reached xs r t = (run_right xs [] [] (fresh least) start_right r).thread t tt

  pub stamps_sum_up_lem : (xs : List (Deed S)) → Rising (events xs) → Sums below All All xs (run merged (fresh least) xs)
  stamps_sum_up_lem xs r =
      let right = run_right xs [] [] (fresh least) start_right r in
      record {
        thread = λ t u. bound_iff (λ e. behind_iff (events xs) r e t) (right.thread t u);
        object = right.object;
      }

  -- before any event each stamp in use is the least
  pub sums_none : (Thread : ℕ → Type 0) (Used : Object → Type 0) (s : State S) → ((t : ℕ) → Thread t → s.threads t ≡ least) → ((o : Object) → Used o → s.objects o ≡ least) → Sums below Thread Used [] s
  sums_none Thread Used s ts os = record {
    thread = λ t u. record { upper = λ x m c. absurd (Memᴰ.not-nil m); least = λ b k. subst (λ v. below v b) (sym (ts t u)) (laws.bottom b) };
    object = λ o u. record { upper = λ x m c. absurd (Memᴰ.not-nil m); least = λ b k. subst (λ v. below v b) (sym (os o u)) (laws.bottom b) };
  }

  -- stamps that are the same where they are in use
  pub sums_same : {Thread : ℕ → Type 0} {Used : Object → Type 0} {xs : List (Deed S)} {s s' : State S} → ((t : ℕ) → Thread t → s.threads t ≡ s'.threads t) → ((o : Object) → Used o → s.objects o ≡ s'.objects o) → Sums below Thread Used xs s → Sums below Thread Used xs s'
  sums_same {Thread} {Used} {xs} ts os h = record {
    thread = λ t u. subst (λ v. Bound below xs (λ e. Behind (events xs) e t) v) (ts t u) (h.thread t u);
    object = λ o u. subst (λ v. Bound below xs (λ e. Leaves (events xs) e o) v) (os o u) (h.object o u);
  }

  -- one deed more, where the event's thread and the object that it acquires are in use
  pub sums_push : {Thread : ℕ → Type 0} {Used : Object → Type 0} (xs : List (Deed S)) (s : State S) (x : Deed S) → Rising (events xs ++ x.event ∷ []) → Thread x.event.thread → ((o : Object) → Acquires x.event o → Used o) → Sums below Thread Used xs s → Sums below Thread Used (xs ++ x ∷ []) (step merged s x)
  sums_push {Thread} {Used} xs s x r own got h =
      let L = events xs in
      let old = rising_front L (x.event ∷ []) r in
      let right = step_right xs L s (record {
        listed = λ y m. event_in xs m;
        thread = λ t u. bound_iff (λ e. ((behind_iff L old e t).1, (behind_iff L old e t).0)) (h.thread t u);
        object = h.object;
      }) x r own got in
      let all = events_push xs x in
      record {
        thread = λ t u. subst (λ M. Bound below (xs ++ x ∷ []) (λ e. Behind M e t) ((step merged s x).threads t)) (sym all) (bound_iff (λ e. behind_iff (L ++ x.event ∷ []) r e t) (right.thread t u));
        object = λ o u. subst (λ M. Bound below (xs ++ x ∷ []) (λ e. Leaves M e o) ((step merged s x).objects o)) (sym all) (right.object o u);
      }

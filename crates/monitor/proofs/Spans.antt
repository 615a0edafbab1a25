-- An access has a moment in its region exactly if no release of its thread stands between the access and the moment, and no acquire of it
-- between the moment and the access: exactly if the access is in the thread's span of that moment.
use Rattle.std.proofs.Common.{rules, ◌≡◌, ℕ, suc, ◌+◌, ◌-◌, ◌<◌, ◌≤◌, Bool, true, false, List, length, get_or, take, drop, sym, ap, ◌∙◌, subst, ⊎_elim, arith, length-drop, length-take, drop-cons}
use Rattle.std.proofs.lemmas.List.{get_or-take, get_or-drop}
use Rattle.std.proofs.lemmas.Bool.{cases_order, cases_lt}
use Rattle.event.specs.declared.record.Event.{Event}
use Rattle.event.specs.Order.{Access}
use Rattle.monitor.specs.Looks.{span_from, span_to}
use Rattle.monitor.specs.Placement.{blank}
use Rattle.monitor.specs.Regions.{acquires_of, releases_of, before_first, after_last, InRegion}
use Rattle.monitor.proofs.Bounding.{after_last_above, after_last_below, after_last_push, before_first_above, before_first_below, before_first_within}
use Rattle.monitor.proofs.Leveling.{take_next}

-- an access neither acquires nor releases
no_release : {e : Event} (t : ℕ) → Access e → releases_of t e ≡ true → ⊥
no_release = search rules

no_acquire : {e : Event} (t : ℕ) → Access e → acquires_of t e ≡ true → ⊥
no_acquire = search rules

module _ (L : List Event) where
  abbrev ev : ℕ → Event
  ev i = get_or L i blank

  -- the first i events, and the event at j among them
  pub front : (test : Event → Bool) (i j : ℕ) → j < i → j < length L → test (ev j) ≡ true → j < after_last test (take i L)
  front test i j lt lj h =
      after_last_above test (take i L) j (omega (arith, length-take i L))
      (ap test (get_or-take i L j blank lt) ∙ h)

  pub front_most : (test : Event → Bool) (i k : ℕ) → ((j : ℕ) → j < i → j < length L → test (ev j) ≡ true → j < k) → after_last test (take i L) ≤ k
  front_most = search (rules, length-take, get_or-take, after_last_below)

  pub back : (test : Event → Bool) (i j : ℕ) → i ≤ j → j < length L → test (ev j) ≡ true → i + before_first test (drop i L) ≤ j
  back test i j le lj h =
      let n : ℕ = j - i in
      let s : i + n ≡ j = omega arith in
      let m = before_first_below test (drop i L) n (omega (arith, length-drop i L)) (ap test (get_or-drop i L n blank ∙ ap ev s) ∙ h) in
      omega arith

  pub back_most : (test : Event → Bool) (i k : ℕ) → i ≤ length L → k ≤ length L → ((j : ℕ) → i ≤ j → j < length L → test (ev j) ≡ true → k ≤ j) → k ≤ i + before_first test (drop i L)
  back_most test i k li lk h =
      let m = before_first_above test (drop i L) (k - i) (omega (arith, length-drop i L)) (λ j lt p.
      let n = h (i + j) (omega arith) (omega (arith, length-drop i L)) (sym (ap test (get_or-drop i L j blank)) ∙ p) in
      omega arith) in
      omega arith

  module _ (t p k : ℕ) (lp : p < length L) (lk : k ≤ length L) where
    pub region_span : Access (ev p) → InRegion L t p k → (span_from L t k ≤ p) × (p < span_to L t k)
    region_span a r = (
      front_most (releases_of t) k p (λ j lt lj h.
          ⊎_elim
          (λ s. absurd (no_release t a (subst (λ n. releases_of t (ev n) ≡ true) s h)))
          (λ o. ⊎_elim (λ b. b) (λ b. absurd (let m = back (releases_of t) (suc p) j b lj h in omega (arith, r.closed))) o)
          (cases_order j p)),
      back_most (acquires_of t) k (suc p) lk lp (λ j le lj h.
          ⊎_elim
          (λ s. absurd (no_acquire t a (subst (λ n. acquires_of t (ev n) ≡ true) s h)))
          (λ o. ⊎_elim (λ b. absurd (let m = front (acquires_of t) p j b lj h in omega (arith, r.opened))) (λ b. b) o)
          (cases_order j p)),
    )

    pub span_region : span_from L t k ≤ p → p < span_to L t k → InRegion L t p k
    span_region from to = record {
      opened = front_most (acquires_of t) p k (λ j lt lj h.
          ⊎_elim (λ b. b) (λ b. absurd (let m = back (acquires_of t) k j b lj h in omega arith)) (cases_lt j k));
      closed = back_most (releases_of t) (suc p) k lp lk (λ j le lj h.
          ⊎_elim (λ b. absurd (let m = front (releases_of t) k j b lj h in omega arith)) (λ b. b) (cases_lt j k));
    }

  pub span_to_within : (t k : ℕ) → k ≤ length L → span_to L t k ≤ length L
  span_to_within t k lk = let m = before_first_within (acquires_of t) (drop k L) in omega (arith, length-drop k L)

  -- where the event at k is no release of t, the span of the moment after it holds that of the moment before it
  module _ (t k : ℕ) (lk : k < length L) (calm : releases_of t (ev k) ≡ false) where
    pub span_from_next : span_from L t (suc k) ≡ span_from L t k
    span_from_next = search (rules, after_last_push, take_next)

    pub span_to_next : span_to L t k ≤ span_to L t (suc k)
    span_to_next = search (rules, drop-cons)

-- The last event and the first event that pass a test.
use Rattle.std.proofs.Common.{rules, ◌≡◌, ℕ, zero, suc, ◌+◌, ◌<◌, ◌≤◌, Bool, true, false, cond, List, [], ◌∷◌, ◌++◌, length, get_or, sym, ap, ◌∙◌, subst, arith}
use Rattle.std.proofs.lemmas.Bool.{cond_both, both_ways}
use Rattle.event.specs.declared.record.Event.{Event}
use Rattle.monitor.specs.Placement.{blank}
use Rattle.monitor.specs.Regions.{after_last_from, after_last, before_first}

module _ (test : Event → Bool) where
  last_push : (i r : ℕ) (L : List Event) (e : Event) → after_last_from i r test (L ++ e ∷ []) ≡ cond (test e) (suc (i + length L)) (after_last_from i r test L)
  last_push i r [] e = let z : i + 0 ≡ i = omega arith in ap (λ n. cond (test e) (suc n) r) (sym z)
  last_push i r (x ∷ L) e =
      let s : suc i + length L ≡ i + suc (length L) = omega arith in
      last_push (suc i) (cond (test x) (suc i) r) L e ∙ ap (λ n. cond (test e) (suc n) (after_last_from (suc i) (cond (test x) (suc i) r) test L)) s

  pub after_last_push : (L : List Event) (e : Event) → after_last test (L ++ e ∷ []) ≡ cond (test e) (suc (length L)) (after_last test L)
  after_last_push L e = let z : 0 + length L ≡ length L = omega arith in last_push 0 0 L e ∙ ap (λ n. cond (test e) (suc n) (after_last test L)) z

  last_keeps : (i r : ℕ) (L : List Event) → r ≤ i → r ≤ after_last_from i r test L
  last_keeps i r [] le = omega arith
  last_keeps i r (x ∷ L) le =
      cond_both (test x) (suc i) r (λ n. r ≤ after_last_from (suc i) n test L)
      (λ _. let h = last_keeps (suc i) (suc i) L (omega arith) in omega arith)
      (λ _. last_keeps (suc i) r L (omega arith))

  last_above : (i r : ℕ) (L : List Event) (j : ℕ) → r ≤ i → j < length L → test (get_or L j blank) ≡ true → i + j < after_last_from i r test L
  last_above i r [] j le lt h = absurd (omega arith)
  last_above i r (x ∷ L) zero le lt h =
      let k = last_keeps (suc i) (suc i) L (omega arith) in
      let s : i + 0 < suc i = omega arith in
      subst (λ (b : Bool). i + 0 < after_last_from (suc i) (cond b (suc i) r) test L) (sym h) (omega arith)
  last_above i r (x ∷ L) (suc j) le lt h =
      cond_both (test x) (suc i) r (λ n. i + suc j < after_last_from (suc i) n test L)
      (λ _. let k = last_above (suc i) (suc i) L j (omega arith) (omega arith) h in omega arith)
      (λ _. let k = last_above (suc i) r L j (omega arith) (omega arith) h in omega arith)

  last_below : (i r : ℕ) (L : List Event) (k : ℕ) → r ≤ k → ((j : ℕ) → j < length L → test (get_or L j blank) ≡ true → i + j < k) → after_last_from i r test L ≤ k
  last_below i r [] k le h = le
  last_below i r (x ∷ L) k le h =
      cond_both (test x) (suc i) r (λ n. after_last_from (suc i) n test L ≤ k)
      (λ e. let m = h 0 (omega arith) e in last_below (suc i) (suc i) L k (omega arith) rest)
      (λ _. last_below (suc i) r L k le rest)
    where
      rest : (j : ℕ) → j < length L → test (get_or L j blank) ≡ true → suc i + j < k
      rest j lt p = let m = h (suc j) (omega arith) p in omega arith

  pub after_last_above : (L : List Event) (j : ℕ) → j < length L → test (get_or L j blank) ≡ true → j < after_last test L
  after_last_above L j lt h = let m = last_above 0 0 L j (omega arith) lt h in omega arith

  pub after_last_below : (L : List Event) (k : ℕ) → ((j : ℕ) → j < length L → test (get_or L j blank) ≡ true → j < k) → after_last test L ≤ k
  after_last_below L k h = last_below 0 0 L k (omega arith) (λ j lt p. let m = h j lt p in omega arith)

  pub before_first_below : (L : List Event) (j : ℕ) → j < length L → test (get_or L j blank) ≡ true → before_first test L ≤ j
  before_first_below [] j lt h = absurd (omega arith)
  before_first_below (x ∷ L) zero lt h = subst (λ (b : Bool). cond b 0 (suc (before_first test L)) ≤ 0) (sym h) (omega arith)
  before_first_below (x ∷ L) (suc j) lt h =
      cond_both (test x) 0 (suc (before_first test L)) (λ n. n ≤ suc j)
      (λ _. omega arith)
      (λ _. let m = before_first_below L j (omega arith) h in omega arith)

  pub before_first_above : (L : List Event) (k : ℕ) → k ≤ length L → ((j : ℕ) → j < length L → test (get_or L j blank) ≡ true → k ≤ j) → k ≤ before_first test L
  before_first_above [] k le h = omega arith
  before_first_above (x ∷ L) zero le h = omega arith
  before_first_above (x ∷ L) (suc k) le h =
      cond_both (test x) 0 (suc (before_first test L)) (λ n. suc k ≤ n)
      (λ e. h 0 (omega arith) e)
      (λ _. let m = before_first_above L k (omega arith) (λ j lt q. let n = h (suc j) (omega arith) q in omega arith) in omega arith)

  pub before_first_within : (L : List Event) → before_first test L ≤ length L
  before_first_within [] = omega arith
  before_first_within (x ∷ L) =
      cond_both (test x) 0 (suc (before_first test L)) (λ n. n ≤ suc (length L)) (λ _. omega arith) (λ _. let m = before_first_within L in omega arith)

  pub after_last_is : (L : List Event) (i : ℕ) → i < length L → test (get_or L i blank) ≡ true → ((j : ℕ) → i < j → j < length L → test (get_or L j blank) ≡ false) → after_last test L ≡ suc i
  after_last_is = search (rules, after_last_above, after_last_below)

  pub after_last_none : (L : List Event) → ((j : ℕ) → j < length L → test (get_or L j blank) ≡ false) → after_last test L ≡ 0
  after_last_none L none = let high = after_last_below L 0 (λ j lj p. absurd (both_ways _ (none j lj) p)) in omega arith

  pub before_first_is : (L : List Event) (i : ℕ) → i < length L → test (get_or L i blank) ≡ true → ((j : ℕ) → j < i → test (get_or L j blank) ≡ false) → before_first test L ≡ i
  before_first_is = search (rules, before_first_below, before_first_above)

  pub before_first_none : (L : List Event) → ((j : ℕ) → j < length L → test (get_or L j blank) ≡ false) → before_first test L ≡ length L
  before_first_none = search (rules, before_first_above, before_first_within)

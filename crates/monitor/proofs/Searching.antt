-- Numbers below a limit that pass a test, and the least of them.
use Rattle.std.proofs.Common.{rules, ◌≡◌, ℕ, zero, suc, ◌+◌, ◌<◌, ◌≤◌, Bool, true, false, cond, ◌||◌, get_or, Some, None, Option, refl, ap, ◌∙◌, ⊎_elim, arith}
use Rattle.std.proofs.lemmas.List.Elements.{All-from_get_or}
use Rattle.std.proofs.lemmas.List.Folds.{list_any_at, list_any_none}
use Rattle.std.proofs.lemmas.List.FromFn.{length-range_with_len, get_or-range_with_len}
use Rattle.std.proofs.lemmas.Bool.{false≢true, both_ways, or_cases, or_left, or_right, cases_eq, cond_both}
use Rattle.std.specs.List.{list_any, range_with_len}
use Rattle.monitor.specs.Placement.{any_below, least_from}

pub any_found : (n : ℕ) (test : ℕ → Bool) → any_below n test ≡ true → (i : ℕ) × (i < n) × (test i ≡ true)
any_found zero test h = absurd (false≢true h)
any_found (suc n) test h =
    ⊎_elim
    (λ p. (n, omega arith, p))
    (λ p. let r = any_found n test p in (r.0, omega (arith, r.1), r.2))
    (or_cases (test n) (any_below n test) h)

pub any_from : (n : ℕ) (test : ℕ → Bool) (i : ℕ) → i < n → test i ≡ true → any_below n test ≡ true
any_from zero test i lt h = absurd (omega arith)
any_from (suc n) test i lt h =
    ⊎_elim
    (λ e. or_left (test n) (any_below n test) (ap test (omega (arith, e)) ∙ h))
    (λ ne. or_right (test n) (any_below n test) (any_from n test i (omega arith) h))
    (cases_eq i n)

pub any_none : (n : ℕ) (test : ℕ → Bool) → ((i : ℕ) → i < n → test i ≡ false) → any_below n test ≡ false
any_none zero test h = refl
any_none (suc n) test h = λ j. h n (omega arith) j || any_none n test (λ i lt. h i (omega arith)) j

pub none_any : (n : ℕ) (test : ℕ → Bool) → any_below n test ≡ false → (i : ℕ) → i < n → test i ≡ false
none_any n test h i lt = go (test i) refl
  where
    go : (b : Bool) → test i ≡ b → b ≡ false
    go true e = absurd (both_ways _ h (any_from n test i lt e))
    go false e = refl

-- tests that agree below the limit
pub any_same : (n : ℕ) (f g : ℕ → Bool) → ((i : ℕ) → i < n → f i ≡ g i) → any_below n f ≡ any_below n g
any_same zero f g h = refl
any_same (suc n) f g h = λ j. h n (omega arith) j || any_same n f g (λ i lt. h i (omega arith)) j

-- the numbers below the limit as a list
pub list_any_below : (n : ℕ) (test : ℕ → Bool) → list_any test (range_with_len 0 n) ≡ any_below n test
list_any_below n test = go (any_below n test) refl
  where
    at : (i : ℕ) → i < n → get_or (range_with_len 0 n) i 0 ≡ i
    at i lt = get_or-range_with_len 0 n i 0 lt ∙ omega arith

    go : (b : Bool) → any_below n test ≡ b → list_any test (range_with_len 0 n) ≡ b
    go true h =
        let w = any_found n test h in
        list_any_at test (range_with_len 0 n) w.0 0 (omega (arith, length-range_with_len 0 n, w.1)) (ap test (at w.0 w.1) ∙ w.2)
    go false h =
        list_any_none test (range_with_len 0 n)
        (All-from_get_or (λ x. test x ≡ false) (range_with_len 0 n) 0 (λ i lt. let li : i < n = omega (arith, length-range_with_len 0 n) in ap test (at i li) ∙ none_any n test h i li))

pub least_none : (i n : ℕ) (test : ℕ → Bool) → ((j : ℕ) → i ≤ j → j < i + n → test j ≡ false) → least_from i n test ≡ None
least_none i zero test h = refl
least_none i (suc n) test h =
    (λ j. cond (h i (omega arith) (omega arith) j) (Some i) (least_from (suc i) n test))
    ∙ least_none (suc i) n test (λ j le lt. h j (omega arith) (omega arith))

pub least_some : (i n : ℕ) (test : ℕ → Bool) (k : ℕ) → i ≤ k → k < i + n → test k ≡ true → ((j : ℕ) → i ≤ j → j < k → test j ≡ false) → least_from i n test ≡ Some k
least_some i zero test k le lt t h = absurd (omega arith)
least_some i (suc n) test k le lt t h =
    ⊎_elim
    (λ e. (λ j. cond ((ap test e ∙ t) j) (Some i) (least_from (suc i) n test)) ∙ ap Some e)
    (λ ne. (λ j. cond (h i (omega arith) (omega arith) j) (Some i) (least_from (suc i) n test))
    ∙ least_some (suc i) n test k (omega arith) (omega arith) t (λ j l m. h j (omega arith) m))
    (cases_eq i k)

-- what the least number that passes is
abbrev pub IsLeast : ℕ → ℕ → (ℕ → Bool) → Option ℕ → Type 0
IsLeast i n test None = (j : ℕ) → i ≤ j → j < i + n → test j ≡ false
IsLeast i n test (Some k) = (i ≤ k) × (k < i + n) × (test k ≡ true) × ((j : ℕ) → i ≤ j → j < k → test j ≡ false)

later : (i n : ℕ) (test : ℕ → Bool) → test i ≡ false → (o : Option ℕ) → IsLeast (suc i) n test o → IsLeast i (suc n) test o
later = search rules

pub least_is : (i n : ℕ) (test : ℕ → Bool) → IsLeast i n test (least_from i n test)
least_is i zero test = λ j le lt. absurd (omega arith)
least_is i (suc n) test =
    cond_both (test i) (Some i) (least_from (suc i) n test) (IsLeast i (suc n) test)
    (λ h. (omega arith, omega arith, h, λ j le lt. absurd (omega arith)))
    (λ h. later i n test h (least_from (suc i) n test) (least_is (suc i) n test))

-- One thread more and one event more: what is found grows by what is found against it and at it.
use Rattle.std.proofs.Common.{◌≡◌, ℕ, zero, suc, ◌+◌, ◌*◌, ◌≤◌, Bool, true, false, cond, eqb, ltb, List, [], ◌∷◌, ◌++◌, length, Some, None, Option, sym, refl, ap, ◌∙◌, add-one, arith}
use Rattle.std.proofs.lemmas.List.{append_assoc, append-nil, length-append}
use Rattle.event.specs.declared.record.Event.{Event}
use Rattle.event.specs.Thins.{access}
use Rattle.order.specs.Marks.{entry}
use Rattle.order.specs.Runs.{Two}
use Rattle.finds.specs.Latest.{is_write_letter, is_read, latest}
use Rattle.finds.specs.Found.{unless_known, against, against_one, against_below, found_at, found_after, found_all}

found_after_push : (n : ℕ) (past T : List Event) (j : Event) → found_after n past (T ++ j ∷ []) ≡ found_after n past T ++ found_at n (past ++ T) j
found_after_push n past [] j = append-nil (found_at n past j) ∙ ap (λ l. found_at n l j) (sym (append-nil past))
found_after_push n past (x ∷ T) j =
    ap (λ fs. found_at n past x ++ fs) (found_after_push n (past ++ x ∷ []) T j ∙ ap (λ l. found_after n (past ++ x ∷ []) T ++ found_at n l j) (append_assoc past (x ∷ []) T))
    ∙ sym (append_assoc (found_at n past x) (found_after n (past ++ x ∷ []) T) (found_at n (past ++ x ∷ T) j))

pub found_push : (n : ℕ) (T : List Event) (j : Event) → found_all n (T ++ j ∷ []) ≡ found_all n T ++ found_at n T j
found_push n T j = found_after_push n [] T j

pub below_none : (T : List Event) (j : Event) → against_below 0 T j ≡ []
unfolding against_below
below_none T j = refl

pub below_more : (n : ℕ) (T : List Event) (j : Event) → against_below (n + 1) T j ≡ against_below n T j ++ against_one (entry (T ++ j ∷ []) j.thread n) T j n
unfolding against_below
below_more n T j = ap (λ m. against_below m T j) (add-one n)

-- at most two findings against each thread
unless_few : (known : ℕ) (j : Event) (o : Option Event) → length (unless_known known j o) ≤ 1
unless_few known j None = omega arith
unless_few known j (Some i) = go (ltb i.place known)
  where
    go : (b : Bool) → length {A = Two} (cond b [] ((i, j) ∷ [])) ≤ 1
    go true = omega arith
    go false = omega arith

thread_few : (known : ℕ) (T : List Event) (j : Event) (u : ℕ) → length (against_one known T j u) ≤ 2
thread_few known T j u = go (eqb u j.thread)
  where
    w : Option Event
    w = latest is_write_letter u j.number T

    r : Option Event
    r = latest is_read u j.number T

    second : (b : Bool) → length (cond b (unless_known known j r) []) ≤ 1
    second true = unless_few known j r
    second false = omega arith

    go : (b : Bool) → length (cond b [] (against known j w r)) ≤ 2
    go true = omega arith
    go false = omega (arith, length-append (unless_known known j w) (cond (is_write_letter j.letter) (unless_known known j r) []), unless_few known j w, second (is_write_letter j.letter))

below_few : (n : ℕ) (T : List Event) (j : Event) → length (against_below n T j) ≤ 2 * n
unfolding against_below
below_few zero T j = omega arith
below_few (suc n) T j =
    omega (arith, below_few n T j, thread_few (entry (T ++ j ∷ []) j.thread n) T j n, length-append (against_below n T j) (against_one (entry (T ++ j ∷ []) j.thread n) T j n))

at_few : (n : ℕ) (T : List Event) (j : Event) → n ≤ 16 → length (found_at n T j) ≤ 32
at_few n T j h = go (access j)
  where
    go : (b : Bool) → length (cond b (against_below n T j) []) ≤ 32
    go true = omega (arith, below_few n T j)
    go false = omega arith

after_few : (n : ℕ) (past T : List Event) → n ≤ 16 → length (found_after n past T) ≤ 32 * length T
after_few n past [] h = omega arith
after_few n past (j ∷ T) h = omega (arith, at_few n past j h, after_few n (past ++ j ∷ []) T h, length-append (found_at n past j) (found_after n (past ++ j ∷ []) T))

-- at most thirty-two findings at each event
pub found_few : (n : ℕ) (T : List Event) → n ≤ 16 → length (found_all n T) ≤ 32 * length T
found_few n T h = after_few n [] T h

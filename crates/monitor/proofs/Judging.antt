-- The lowest uncovered moment is the lowest, and where there is none the placement is right.
use Rattle.std.proofs.Common.{rules, ◌≡◌, ℕ, suc, ◌<◌, ◌≤◌, Bool, true, false, ltb, ◌↔◌, List, [], length, take, Some, None, Ok, Err, Option, sym, refl, ap, ◌∙◌, subst, ⊎_elim, arith}
use Rattle.std.proofs.ByRecursion.{All-take}
use Rattle.std.proofs.lemmas.Bool.{both_ways, cases_lt, le-ltb, cond-false}
use Rattle.event.specs.declared.counts.Counts.{Counts}
use Rattle.event.specs.declared.fault.CallerFault.{CallerFault}
use Rattle.event.specs.declared.fault.CallerFault.TheVariants.{Table}
use Rattle.event.specs.declared.record.Event.{Event}
use Rattle.event.specs.Thins.{Placed, Sound}
use Rattle.monitor.specs.declared.fault.PlacementFault.TheVariants.{Caller}
use Rattle.monitor.specs.declared.level.Level.{Level}
use Rattle.monitor.specs.Checks.{refusing, checked, reached, left, Judged}
use Rattle.monitor.specs.Placement.{Held, Covered, WellPlaced, Uncovered, LowestUncovered, any_below, exposed, uncovered, lowest}
use Rattle.monitor.specs.Tables.{size, room, cleared, tabled}
use Rattle.monitor.specs.Theorems.{Computed}
use Rattle.monitor.proofs.Checking.{exposed_parts, safe_covered, covered_safe}
use Rattle.monitor.proofs.Covering.{fits_iff, in_region_iff, covered_by_iff, covered_iff}
use Rattle.monitor.proofs.Leveling.{level_outside}
use Rattle.monitor.proofs.Searching.{any_found, none_any, any_none, IsLeast, least_is, least_some, least_none}
use Rattle.monitor.proofs.Tabling.{tabled_none, tabled_again}

module _ (c : Counts) (L : List Event) (sound : Sound c L) where
  -- only declared levels are held
  held_declared : (k t v : ℕ) → Held L k t v → (t < c.threads) × (v < c.variables)
  held_declared k t v held =
      ⊎_elim
      (λ lt. ⊎_elim (λ lv. (lt, lv)) (λ out. absurd (held (level_outside c (take k L) t v (All-take (Placed c) k L sound.placed) (λ a b. absurd (omega arith))))) (cases_lt v c.variables))
      (λ out. absurd (held (level_outside c (take k L) t v (All-take (Placed c) k L sound.placed) (λ a b. absurd (omega arith)))))
      (cases_lt t c.threads)

  pub uncovered_found : (k : ℕ) → k ≤ length L → uncovered c L k ≡ true → Uncovered L k
  uncovered_found = search (rules, exposed_parts, any_found)

  pub covered_all : (k : ℕ) → uncovered c L k ≡ false → (t v : ℕ) → Held L k t v → Covered L k t v
  covered_all k h t v held =
      let d = held_declared k t v held in
      safe_covered L k t v (none_any c.variables (λ w. exposed L k t w) (none_any c.threads (λ u. any_below c.variables (λ w. exposed L k u w)) h t d.0) v d.1) held

  pub uncovered_true : (k : ℕ) → Uncovered L k → uncovered c L k ≡ true
  uncovered_true = search (rules, covered_all)

  none_uncovered : (k : ℕ) → uncovered c L k ≡ false → Uncovered L k → ⊥
  none_uncovered k h u = both_ways _ h (uncovered_true k u)

  pub lowest_some : (k : ℕ) → (lowest c L ≡ Some k) ↔ LowestUncovered L k
  lowest_some k = (
    λ h.
        let r = subst (IsLeast 0 (suc (length L)) (uncovered c L)) h (least_is 0 (suc (length L)) (uncovered c L)) in
        record { uncovered = uncovered_found k (omega (arith, r.1)) r.2; lowest = λ j lt u. none_uncovered j (r.3 j (omega arith) lt) u },
    λ u. least_some 0 (suc (length L)) (uncovered c L) k (omega arith) (omega (arith, u.uncovered.within)) (uncovered_true k u.uncovered) (λ j le lt. below j lt u),
  )
    where
      below : (j : ℕ) → j < k → LowestUncovered L k → uncovered c L j ≡ false
      below j lt u = go (uncovered c L j) refl
        where
          go : (b : Bool) → uncovered c L j ≡ b → b ≡ false
          go true h = absurd (u.lowest j lt (uncovered_found j (omega (arith, u.uncovered.within)) h))
          go false h = refl

  pub lowest_no : (lowest c L ≡ None) ↔ WellPlaced L
  lowest_no = (
    λ h k t v lk held.
        let r = subst (IsLeast 0 (suc (length L)) (uncovered c L)) h (least_is 0 (suc (length L)) (uncovered c L)) in
        covered_all k (r k (omega arith) (omega arith)) t v held,
    λ w. least_none 0 (suc (length L)) (uncovered c L) (λ j le lt. any_none c.threads _ (λ t lt'. any_none c.variables _ (λ v lv. covered_safe L j t v (w j t v (omega arith))))),
  )

  refused_rightly : (n : ℕ) → size c ≤ n → (o : Option ℕ) → lowest c L ≡ o → Judged c L n (refusing o)
  refused_rightly n le None h = (le, lowest_no.0 h)
  refused_rightly n le (Some k) h = (le, (lowest_some k).0 h)

  pub judged : (n : ℕ) → Judged c L n (checked c L n)
  judged = search (rules, refused_rightly)

pub room_fits : (c : Counts) (n : ℕ) → Ok tt ≡ room c n → size c ≤ n
room_fits = search rules

pub room_lacks : (c : Counts) (n : ℕ) (f : CallerFault) → Err f ≡ room c n → (n < size c) × (f ≡ Table (size c))
room_lacks = search rules

-- where the table is too small
module _ (c : Counts) (L : List Event) (xs : List Level) (lacks : length xs < size c) where
  pub checked_lacking : checked c L (length xs) ≡ Err (Caller (Table (size c)))
  checked_lacking = search rules

  pub left_lacking : left c L xs ≡ xs
  left_lacking = search rules

-- where the table is large enough
module _ (c : Counts) (L : List Event) (xs : List Level) (fits : size c ≤ length xs) where
  pub checked_roomy : checked c L (length xs) ≡ refusing (lowest c L)
  checked_roomy = cond-false (ltb (length xs) (size c)) _ _ (le-ltb (length xs) (size c) fits)

  pub left_roomy : left c L xs ≡ tabled c (reached c L) xs
  left_roomy = cond-false (ltb (length xs) (size c)) _ _ (le-ltb (length xs) (size c) fits)

  -- what is left after a start from a cleared table
  pub left_cleared : tabled c (reached c L) (cleared c xs) ≡ left c L xs
  left_cleared = ap (tabled c (reached c L)) (tabled_none c xs fits) ∙ tabled_again c (reached c L) [] xs ∙ sym left_roomy

-- What a check that starts from a cleared table answers and leaves, where it took the counts n and the events es of its list.
module _ (xs : List Level) {n c : Counts} {es L : List Event} {clear : List Level} (counts : n ≡ c) (events : es ≡ L) (clears : clear ≡ cleared n xs) (fits : Ok tt ≡ room n (length xs)) where
  pub settled_answer : {o : Option ℕ} → o ≡ lowest n es → refusing o ≡ checked c L (length xs)
  settled_answer = search rules

  pub settled_levels : {last : List Level} → last ≡ tabled n (reached n es) clear → last ≡ left c L xs
  settled_levels = search (rules, left_cleared)

pub computed : (c : Counts) (L : List Event) → Sound c L → Computed c L
computed = search (rules, fits_iff, in_region_iff, covered_by_iff, covered_iff, lowest_some, lowest_no)

-- A mark is the highest level that an access among some events fits.
use Rattle.std.proofs.Common.{rules, ◌≡◌, ℕ, zero, suc, ◌<◌, ◌≤◌, Bool, true, cond, ◌&&◌, eqb, ltb, ◌⊎◌, List, [], ◌∷◌, ◌++◌, length, get_or, replicate, sym, refl, ap, ◌∙◌, subst, inl, inr, ⊎_elim, arith, length-set}
use Rattle.std.proofs.lemmas.List.FromFn.{length-map-range_with_len, get_or-map-range_with_len, fill_by_all}
use Rattle.std.proofs.lemmas.List.{get_or-set_same, get_or-set_other}
use Rattle.std.proofs.lemmas.Bool.{cond_both, cond-true, cond-false, and_left, and_right, ne_eqb, cases_eq}
use Rattle.event.specs.declared.record.Event.{Event}
use Rattle.event.specs.Order.{Access}
use Rattle.monitor.specs.declared.level.Level.{Level}
use Rattle.monitor.specs.declared.level.Level.TheVariants.{None as none}
use Rattle.monitor.specs.Levels.{rank, higher, worth}
use Rattle.monitor.specs.Looks.{mark_from, mark, marks_of, raised}
use Rattle.monitor.specs.Placement.{blank, Suits}

higher_left : (l m : Level) → rank l ≤ rank (higher l m)
higher_left = search rules

higher_right : (l m : Level) → rank m ≤ rank (higher l m)
higher_right = search rules

higher_most : (l m : Level) (n : ℕ) → n ≤ rank (higher l m) → (n ≤ rank l) ⊎ (n ≤ rank m)
higher_most l m n = cond_both (ltb (rank l) (rank m)) m l (λ x. n ≤ rank x → (n ≤ rank l) ⊎ (n ≤ rank m)) (λ _ h. inr h) (λ _ h. inl h)

module _ (t v : ℕ) where
  -- the event is of the thread t, and names v
  abbrev pub own : Event → Bool
  own e = eqb e.thread t && eqb e.number v

  push_from : (l : Level) (M : List Event) (e : Event) → mark_from l t v (M ++ e ∷ []) ≡ cond (own e) (higher (mark_from l t v M) (worth e.letter)) (mark_from l t v M)
  push_from l [] e = refl
  push_from l (x ∷ M) e = push_from (cond (own x) (higher l (worth x.letter)) l) M e

  pub mark_push : (M : List Event) (e : Event) → mark t v (M ++ e ∷ []) ≡ cond (own e) (higher (mark t v M) (worth e.letter)) (mark t v M)
  mark_push M e = push_from none M e

  mark_keeps : (l : Level) (M : List Event) → rank l ≤ rank (mark_from l t v M)
  mark_keeps l [] = omega arith
  mark_keeps l (x ∷ M) =
      cond_both (own x) (higher l (worth x.letter)) l (λ m. rank l ≤ rank (mark_from m t v M))
      (λ _. let h = mark_keeps (higher l (worth x.letter)) M in omega (arith, higher_left l (worth x.letter)))
      (λ _. mark_keeps l M)

  mark_above : (l : Level) (M : List Event) (j : ℕ) → j < length M → own (get_or M j blank) ≡ true → rank (worth (get_or M j blank).letter) ≤ rank (mark_from l t v M)
  mark_above l [] j lt h = absurd (omega arith)
  mark_above l (x ∷ M) zero lt h =
      let k = mark_keeps (higher l (worth x.letter)) M in
      subst (λ m. rank (worth x.letter) ≤ rank (mark_from m t v M)) (sym (cond-true (own x) (higher l (worth x.letter)) l h)) (omega (arith, higher_right l (worth x.letter)))
  mark_above l (x ∷ M) (suc j) lt h = mark_above (cond (own x) (higher l (worth x.letter)) l) M j (omega arith) h

  -- an event of t on v among M that is worth n
  pub record Worth (M : List Event) (n : ℕ) : Type 0 where
    pub at : ℕ
    pub within : at < length M
    pub owned : own (get_or M at blank) ≡ true
    pub worthy : n ≤ rank (worth (get_or M at blank).letter)

  worth_behind : (x : Event) (M : List Event) (n : ℕ) → Worth M n → Worth (x ∷ M) n
  worth_behind x M n w = record { at = suc w.at; within = omega (arith, w.within); owned = w.owned; worthy = w.worthy }

  first_or : (l : Level) (x : Event) (M : List Event) (n : ℕ) → (n ≤ rank (cond (own x) (higher l (worth x.letter)) l)) → (n ≤ rank l) ⊎ Worth (x ∷ M) n
  first_or = search rules

  mark_found : (l : Level) (M : List Event) (n : ℕ) → n ≤ rank (mark_from l t v M) → (n ≤ rank l) ⊎ Worth M n
  mark_found l [] n h = inl h
  mark_found l (x ∷ M) n h = ⊎_elim (first_or l x M n) (λ w. inr (worth_behind x M n w)) (mark_found (cond (own x) (higher l (worth x.letter)) l) M n h)

  pub marked : (M : List Event) (j : ℕ) → j < length M → own (get_or M j blank) ≡ true → rank (worth (get_or M j blank).letter) ≤ rank (mark t v M)
  marked M j lt h = mark_above none M j lt h

  pub unmarked : (M : List Event) (n : ℕ) → 0 < n → n ≤ rank (mark t v M) → Worth M n
  unmarked M n low h = ⊎_elim (λ z. absurd (omega arith)) (λ w. w) (mark_found none M n h)

-- what a letter is worth tells which levels it fits
pub suits_worth : (l : Level) (e : Event) → Suits l e → rank l ≤ rank (worth e.letter)
suits_worth = search rules

pub worth_suits : (l : Level) (e : Event) → 0 < rank l → rank l ≤ rank (worth e.letter) → Suits l e
worth_suits = search rules

pub suits_access : {l : Level} {e : Event} → Suits l e → Access e
suits_access = search rules

pub own_true : (t v : ℕ) (e : Event) → e.thread ≡ t → e.number ≡ v → own t v e ≡ true
own_true = search rules

pub own_parts : (t v : ℕ) (e : Event) → own t v e ≡ true → (e.thread ≡ t) × (e.number ≡ v)
own_parts = search rules

-- ---- the marks of all variables

pub marks_none : (t : ℕ) → replicate 256 none ≡ marks_of t []
marks_none t = refl

marks_at : (t : ℕ) (M : List Event) (v : ℕ) → v < 256 → get_or (marks_of t M) v none ≡ mark t v M
marks_at t M v lt = get_or-map-range_with_len (λ w. mark t w M) 0 256 v v none lt (omega arith)

marks_length : (t : ℕ) (M : List Event) → length (marks_of t M) ≡ 256
marks_length t M = length-map-range_with_len (λ w. mark t w M) 0 256

-- an event of another thread raises no mark
pub marks_skip : (t : ℕ) (M : List Event) (e : Event) → (e.thread ≡ t → ⊥) → marks_of t M ≡ marks_of t (M ++ e ∷ [])
marks_skip t M e ne =
    fill_by_all (λ w. mark t w (M ++ e ∷ [])) (marks_of t M) 256 none (marks_length t M)
    (λ v lv. marks_at t M v lv ∙ sym (mark_push t v M e ∙ cond-false (own t v e) _ _ (and_left (eqb e.thread t) (eqb e.number v) (ne_eqb e.thread t ne))))

-- an event of the thread raises the mark of its variable
pub marks_more : (t : ℕ) (M : List Event) (e : Event) → e.thread ≡ t → raised (marks_of t M) e.number (worth e.letter) ≡ marks_of t (M ++ e ∷ [])
marks_more t M e s =
    fill_by_all (λ w. mark t w (M ++ e ∷ [])) (raised (marks_of t M) e.number (worth e.letter)) 256 none (length-set (marks_of t M) e.number _ ∙ marks_length t M)
    (λ v lv. ⊎_elim (here v lv) (λ ne. get_or-set_other (marks_of t M) e.number v _ none ne ∙ marks_at t M v lv ∙ sym (mark_push t v M e ∙ cond-false (own t v e) _ _ (and_right (eqb e.thread t) (eqb e.number v) (ne_eqb e.number v (λ q. ne (sym q)))))) (cases_eq v e.number))
  where
    here : (v : ℕ) → v < 256 → v ≡ e.number → get_or (raised (marks_of t M) e.number (worth e.letter)) v none ≡ mark t v (M ++ e ∷ [])
    here v lv q =
        ap (λ n. get_or (raised (marks_of t M) n (worth e.letter)) v none) (sym q)
        ∙ get_or-set_same (marks_of t M) v _ none (omega (arith, marks_length t M))
        ∙ ap (λ l. higher l (worth e.letter)) (marks_at t M v lv)
        ∙ sym (mark_push t v M e ∙ cond-true (own t v e) _ _ (own_true t v e s (sym q)))

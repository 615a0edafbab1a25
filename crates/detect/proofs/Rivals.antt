-- What is offered against one thread is what is found against it: the table's accesses conflict with the one that was just told.
use Rattle.std.proofs.Common.{◌≡◌, ℕ, ◌<◌, Bool, true, false, cond, ◌||◌, ltb, leb, ◌⊎◌, List, [], ◌∷◌, ◌++◌, Some, None, Option, sym, refl, ap, ◌∙◌, inl, inr, ⊎_elim, arith}
use Rattle.std.proofs.lemmas.Bool.{false≢true, ltb-true, ltb-false, le-leb, lt-leb, ne_eqb, or_left, or_right, cond_both}
use Rattle.event.specs.declared.counts.Counts.{Counts}
use Rattle.event.specs.declared.letter.Letter.{Letter}
use Rattle.event.specs.declared.letter.Letter.TheVariants.{Read, Write, Acquire, Release, Fork, Join, Begin, End, Strong, Weak, Downgrade, Stop}
use Rattle.event.specs.declared.record.Event.{Event}
use Rattle.event.specs.Ranges.{limit}
use Rattle.event.specs.Thins.{accesses, access, Placed, Sound}
use Rattle.event.proofs.Sounds.{sound_first, sound_tail}
use Rattle.finds.specs.Found.{unless_known, against, against_one}
use Rattle.finds.specs.Latest.{is_write_letter, is_read, latest}
use Rattle.finds.proofs.Latests.{looked_up}
use Rattle.order.specs.Runs.{Two}
use Rattle.order.proofs.Front.{rising_front}
use Rattle.order.proofs.Newest.{older}
use Rattle.detect.specs.Pairs.{conflicting}
use Rattle.detect.specs.Reports.{unless_below}
use Rattle.detect.proofs.Conflicts.{true_conflicting}

-- an access reads or writes
pub access_letter : (l : Letter) → accesses l ≡ true → (l ≡ Read) ⊎ (l ≡ Write)
access_letter Read h = inl refl
access_letter Write h = inr refl
access_letter Acquire h = absurd (false≢true h)
access_letter Release h = absurd (false≢true h)
access_letter Fork h = absurd (false≢true h)
access_letter Join h = absurd (false≢true h)
access_letter Begin h = absurd (false≢true h)
access_letter End h = absurd (false≢true h)
access_letter Strong h = absurd (false≢true h)
access_letter Weak h = absurd (false≢true h)
access_letter Downgrade h = absurd (false≢true h)
access_letter Stop h = absurd (false≢true h)

-- the number of an access is a variable's
pub access_limit : (c : Counts) (l : Letter) → accesses l ≡ true → limit c l ≡ c.variables
access_limit c l h = ⊎_elim (ap (limit c)) (ap (limit c)) (access_letter l h)

-- an event of a sound list
pub placed_at : (c : Counts) (T : List Event) (e : Event) (M : List Event) → Sound c (T ++ e ∷ M) → Placed c e
placed_at c [] e M s = sound_first c e M s
placed_at c (x ∷ T) e M s = placed_at c T e M (sound_tail c x (T ++ e ∷ M) s)

-- two tests of one order
unless_same : (known : ℕ) (j : Event) (o : Option Event) → ((i : Event) → o ≡ Some i → conflicting i j ≡ true) → unless_below known j o ≡ unless_known known j o
unless_same known j None h = refl
unless_same known j (Some i) h =
    let two : List Two = (i, j) ∷ [] in
    ap (λ b. cond (leb known i.place) (cond b two []) []) (h i refl)
    ∙ cond_both (ltb i.place known) [] two (λ fs. cond (leb known i.place) two [] ≡ fs)
    (λ p. ap (λ d. cond d two []) (lt-leb known i.place (ltb-true _ _ p)))
    (λ p. ap (λ d. cond d two []) (le-leb known i.place (ltb-false _ _ p)))

pub own_thread : (c : Counts) (T : List Event) (j : Event) → Sound c (T ++ j ∷ []) → j.thread < c.threads
own_thread c T j s = (placed_at c T j [] s).thread

module _ (c : Counts) (T : List Event) (j : Event) (s : Sound c (T ++ j ∷ [])) (a : access j ≡ true) where
  pub own_variable : j.number < c.variables
  own_variable = let p = placed_at c T j [] s in omega (arith, p.number, access_limit c j.letter a)

  -- a looked_up access of another thread conflicts with j, if one of the two writes
  looked_conflicts : (kind : Letter → Bool) (u : ℕ) → (u ≡ j.thread → ⊥) → ((l : Letter) → kind l ≡ true → (is_write_letter l || is_write_letter j.letter) ≡ true) →
      (o : Option Event) → o ≡ latest kind u j.number T → (i : Event) → o ≡ Some i → conflicting i j ≡ true
  looked_conflicts kind u apart written o is i e =
      let h = looked_up kind u j.number T (rising_front T (j ∷ []) s.rising) i (sym is ∙ e) in
      true_conflicting i j (record {
        order = older T j s.rising h.0;
        last = (placed_at c T j [] s).place;
        apart = λ p. apart (sym h.1.thread ∙ p);
        written = written i.letter h.1.letter;
        same = h.1.number;
        small = omega (arith, own_variable, c.limits);
      })

  -- what is offered of the table's accesses of the thread u is what is found against u
  pub rivals_same : (known u : ℕ) → (u ≡ j.thread → ⊥) → (w r : Option Event) → w ≡ latest is_write_letter u j.number T → r ≡ latest is_read u j.number T →
      (unless_below known j w ++ cond (is_write_letter j.letter) (unless_below known j r) []) ≡ against_one known T j u
  rivals_same known u apart w r p q =
      (λ i. first i ++ second i)
      ∙ (λ i. against known j (p i) (q i))
      ∙ sym (ap (λ b. cond b [] (against known j (latest is_write_letter u j.number T) (latest is_read u j.number T))) (ne_eqb _ _ apart))
    where
      first : unless_below known j w ≡ unless_known known j w
      first = unless_same known j w (looked_conflicts is_write_letter u apart (λ l h. or_left _ _ h) w p)

      go : (b : Bool) → is_write_letter j.letter ≡ b → cond b (unless_below known j r) [] ≡ cond b (unless_known known j r) []
      go true h = unless_same known j r (looked_conflicts is_read u apart (λ l k. or_right _ _ h) r q)
      go false h = refl

      second : cond (is_write_letter j.letter) (unless_below known j r) [] ≡ cond (is_write_letter j.letter) (unless_known known j r) []
      second = go (is_write_letter j.letter) refl

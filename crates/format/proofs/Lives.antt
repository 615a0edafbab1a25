-- Thread life: the stage that is remembered of a thread says what the events so far made of it.
use Rattle.std.proofs.Common.{◌≡◌, ℕ, ◌<◌, Bool, true, false, cond, eqb, ◌⊎◌, ◌↔◌, List, [], ◌∷◌, ◌++◌, length, set, sym, refl, subst, inl, inr, ⊎_elim, arith, length-set}
use mathlib.Core.Bool.{false≢true}
use Rattle.std.proofs.lemmas.Bool.{eqb-true, eq-eqb}
use Rattle.event.specs.declared.letter.Letter.{Letter}
use Rattle.event.specs.declared.letter.Letter.TheVariants.{Read, Write, Acquire, Release, Fork, Join, Begin, End, Strong, Weak, Downgrade, Stop}
use Rattle.event.specs.declared.record.Event.{Event}
use Rattle.event.specs.declared.counts.Counts.{Counts}
use Rattle.event.specs.Ranges.{limit}
use Rattle.format.specs.declared.kinds.Stage.{Stage}
use Rattle.format.specs.declared.kinds.Stage.TheVariants.{Unborn, Forked, Running, Ended}
use Rattle.format.specs.Codes.{code_letter}
use Rattle.format.specs.Rules.{Among, Forks, Begins, Ends, Runs, NotForked, Life}
use Rattle.format.specs.Standings.{is_running, is_unborn, is_forked, is_ended, stage_at, lives_by, lived_by, lives, lived}
use Rattle.format.proofs.Pasts.{one_more, still, none_yet, letters_apart, after_set}

-- a thread that has started: thread 0, which nobody forks, or one that was forked and has begun
abbrev Started : List Event → ℕ → Type 0
Started L t = ((t ≡ 0) × (Among L (Forks t) → ⊥)) ⊎ ((t ≡ 0 → ⊥) × Among L (Forks t) × Among L (Begins t))

-- what a stage says
abbrev pub StageIs : List Event → ℕ → Stage → Type 0
StageIs L t Unborn = NotForked L t × (Among L (Begins t) → ⊥) × (Among L (Ends t) → ⊥)
StageIs L t Forked = (t ≡ 0 → ⊥) × Among L (Forks t) × (Among L (Begins t) → ⊥) × (Among L (Ends t) → ⊥)
StageIs L t Running = Started L t × (Among L (Ends t) → ⊥)
StageIs L t Ended = Started L t × Among L (Ends t)

runs_iff : (L : List Event) (t : ℕ) (x : Stage) → StageIs L t x → (is_running x ≡ true) ↔ Runs L t
runs_iff L t Unborn h = (λ p. absurd (false≢true p), λ r. absurd (⊎_elim h.0.other h.1 r.begun))
runs_iff L t Forked h = (λ p. absurd (false≢true p), λ r. absurd (⊎_elim h.0 h.2 r.begun))
runs_iff L t Running h = (λ p. record { begun = ⊎_elim (λ a. inl a.0) (λ b. inr b.2) h.0; not_ended = h.1 }, λ r. refl)
runs_iff L t Ended h = (λ p. absurd (false≢true p), λ r. absurd (r.not_ended h.1))

not_forked : (L : List Event) (t : ℕ) → Started L t → NotForked L t → ⊥
not_forked L t s n = ⊎_elim (λ a. n.other a.0) (λ b. n.never b.1) s

unborn_iff : (L : List Event) (t : ℕ) (x : Stage) → StageIs L t x → (is_unborn x ≡ true) ↔ NotForked L t
unborn_iff L t Unborn h = (λ p. h.0, λ n. refl)
unborn_iff L t Forked h = (λ p. absurd (false≢true p), λ n. absurd (n.never h.1))
unborn_iff L t Running h = (λ p. absurd (false≢true p), λ n. absurd (not_forked L t h.0 n))
unborn_iff L t Ended h = (λ p. absurd (false≢true p), λ n. absurd (not_forked L t h.0 n))

abbrev Waits : List Event → ℕ → Type 0
Waits L t = Among L (Forks t) × (Among L (Begins t) → ⊥)

not_waiting : (L : List Event) (t : ℕ) → Started L t → Waits L t → ⊥
not_waiting L t s w = ⊎_elim (λ a. a.1 w.0) (λ b. w.1 b.2) s

forked_iff : (L : List Event) (t : ℕ) (x : Stage) → StageIs L t x → (is_forked x ≡ true) ↔ Waits L t
forked_iff L t Unborn h = (λ p. absurd (false≢true p), λ w. absurd (h.0.never w.0))
forked_iff L t Forked h = (λ p. (h.1, h.2), λ w. refl)
forked_iff L t Running h = (λ p. absurd (false≢true p), λ w. absurd (not_waiting L t h.0 w))
forked_iff L t Ended h = (λ p. absurd (false≢true p), λ w. absurd (not_waiting L t h.0 w))

ended_iff : (L : List Event) (t : ℕ) (x : Stage) → StageIs L t x → (is_ended x ≡ true) ↔ Among L (Ends t)
ended_iff L t Unborn h = (λ p. absurd (false≢true p), λ a. absurd (h.2 a))
ended_iff L t Forked h = (λ p. absurd (false≢true p), λ a. absurd (h.3 a))
ended_iff L t Running h = (λ p. absurd (false≢true p), λ a. absurd (h.1 a))
ended_iff L t Ended h = (λ p. h.1, λ a. refl)

both : (a b : Bool) → (cond a b false ≡ true) ↔ ((a ≡ true) × (b ≡ true))
both true b = (λ p. (refl, p), λ q. q.1)
both false b = (λ p. absurd (false≢true p), λ q. absurd (false≢true q.0))

same_iff : (n t : ℕ) → (eqb n t ≡ true) ↔ (n ≡ t)
same_iff n t = (eqb-true n t, eq-eqb n t)

and_iff : {P Q : Type 0} (a b : Bool) → (a ≡ true) ↔ P → (b ≡ true) ↔ Q → (cond a b false ≡ true) ↔ (P × Q)
and_iff a b p q = (λ h. let s = (both a b).0 h in (p.0 s.0, q.0 s.1), λ s. (both a b).1 (p.1 s.0, q.1 s.1))

-- each remembered stage is right
abbrev pub Staged : List Event → List Stage → Type 0
Staged L ss = (t : ℕ) → t < 16 → StageIs L t (stage_at ss t)

-- the test of thread life is the rule of thread life
pub lives_iff : (c : Counts) (L : List Event) (ss : List Stage) (l : Letter) (t n : ℕ) → Staged L ss → t < c.threads → n < limit c l → (lives_by l t n ss ≡ true) ↔ Life L l t n
lives_iff c L ss Read t n h lt ln = runs_iff L t _ (h t (omega (arith, c.limits)))
lives_iff c L ss Write t n h lt ln = runs_iff L t _ (h t (omega (arith, c.limits)))
lives_iff c L ss Acquire t n h lt ln = runs_iff L t _ (h t (omega (arith, c.limits)))
lives_iff c L ss Release t n h lt ln = runs_iff L t _ (h t (omega (arith, c.limits)))
lives_iff c L ss Fork t n h lt ln = and_iff _ _ (runs_iff L t _ (h t (omega (arith, c.limits)))) (unborn_iff L n _ (h n (omega (arith, c.limits))))
lives_iff c L ss Join t n h lt ln = and_iff _ _ (runs_iff L t _ (h t (omega (arith, c.limits)))) (ended_iff L n _ (h n (omega (arith, c.limits))))
lives_iff c L ss Begin t n h lt ln =
    let w = and_iff _ _ (same_iff n t) (forked_iff L t _ (h t (omega (arith, c.limits)))) in
    (λ p. let s = w.0 p in (s.0, s.1.0, s.1.1), λ s. w.1 (s.0, (s.1, s.2)))
lives_iff c L ss End t n h lt ln = and_iff _ _ (same_iff n t) (runs_iff L t _ (h t (omega (arith, c.limits))))
lives_iff c L ss Strong t n h lt ln = runs_iff L t _ (h t (omega (arith, c.limits)))
lives_iff c L ss Weak t n h lt ln = runs_iff L t _ (h t (omega (arith, c.limits)))
lives_iff c L ss Downgrade t n h lt ln = runs_iff L t _ (h t (omega (arith, c.limits)))
lives_iff c L ss Stop t n h lt ln = runs_iff L t _ (h t (omega (arith, c.limits)))

module _ (L : List Event) (e : Event) (t : ℕ) where
  started_still : (Forks t e → ⊥) → Started L t → Started (L ++ e ∷ []) t
  started_still nf s = ⊎_elim (λ a. inl (a.0, none_yet (Forks t) L e a.1 nf)) (λ b. inr (b.0, still (Forks t) L e b.1, still (Begins t) L e b.2)) s

  -- an event that neither forks, begins nor ends a thread leaves its stage
  stage_still : (Forks t e → ⊥) → (Begins t e → ⊥) → (Ends t e → ⊥) → (x : Stage) → StageIs L t x → StageIs (L ++ e ∷ []) t x
  stage_still nf nb ne Unborn h =
      (record { other = h.0.other; never = none_yet (Forks t) L e h.0.never nf }, none_yet (Begins t) L e h.1 nb, none_yet (Ends t) L e h.2 ne)
  stage_still nf nb ne Forked h = (h.0, still (Forks t) L e h.1, none_yet (Begins t) L e h.2 nb, none_yet (Ends t) L e h.3 ne)
  stage_still nf nb ne Running h = (started_still nf h.0, none_yet (Ends t) L e h.1 ne)
  stage_still nf nb ne Ended h = (started_still nf h.0, still (Ends t) L e h.1)

unborn_is : (x : Stage) → is_unborn x ≡ true → x ≡ Unborn
unborn_is Unborn p = refl
unborn_is Forked p = absurd (false≢true p)
unborn_is Running p = absurd (false≢true p)
unborn_is Ended p = absurd (false≢true p)

forked_is : (x : Stage) → is_forked x ≡ true → x ≡ Forked
forked_is Unborn p = absurd (false≢true p)
forked_is Forked p = refl
forked_is Running p = absurd (false≢true p)
forked_is Ended p = absurd (false≢true p)

running_is : (x : Stage) → is_running x ≡ true → x ≡ Running
running_is Unborn p = absurd (false≢true p)
running_is Forked p = absurd (false≢true p)
running_is Running p = refl
running_is Ended p = absurd (false≢true p)

module _ (c : Counts) (L : List Event) (e : Event) (ss : List Stage) (long : length ss ≡ 16) (h : Staged L ss) (lt : e.thread < c.threads) where
  -- an event with another letter than fork, begin and end
  quiet : (l : Letter) → e.letter ≡ l → (code_letter l ≡ 102 → ⊥) → (code_letter l ≡ 98 → ⊥) → (code_letter l ≡ 101 → ⊥) → Staged (L ++ e ∷ []) ss
  quiet l q f b n t k =
      stage_still L e t (λ a. f (letters_apart e q a.0)) (λ a. b (letters_apart e q a.0)) (λ a. n (letters_apart e q a.0)) (stage_at ss t) (h t k)

  forks : e.letter ≡ Fork → e.number < c.threads → lives_by Fork e.thread e.number ss ≡ true → Staged (L ++ e ∷ []) (set ss e.number Forked)
  forks q ln ok t k =
      let n = e.number in
      let u : is_unborn (stage_at ss n) ≡ true = ((both (is_running (stage_at ss e.thread)) (is_unborn (stage_at ss n))).0 ok).1 in
      let was : StageIs L n Unborn = subst (StageIs L n) (unborn_is (stage_at ss n) u) (h n (omega (arith, c.limits))) in
      let nb : Begins n e → ⊥ = λ a. let z = letters_apart e q a.0 in omega arith in
      let ne : Ends n e → ⊥ = λ a. let z = letters_apart e q a.0 in omega arith in
      let now : StageIs (L ++ e ∷ []) n Forked = (was.0.other, one_more (Forks n) L e (q, refl), none_yet (Begins n) L e was.1 nb, none_yet (Ends n) L e was.2 ne) in
      after_set ss n t Forked Unborn (StageIs (L ++ e ∷ []) t) (omega (arith, c.limits))
      (λ s. subst (λ m. StageIs (L ++ e ∷ []) m Forked) (sym s) now)
      (λ s. stage_still L e t (λ a. s (sym a.1)) (λ a. let z = letters_apart e q a.0 in omega arith) (λ a. let z = letters_apart e q a.0 in omega arith) (stage_at ss t) (h t k))

  begins : e.letter ≡ Begin → lives_by Begin e.thread e.number ss ≡ true → Staged (L ++ e ∷ []) (set ss e.thread Running)
  begins q ok t k =
      let m = e.thread in
      let f : is_forked (stage_at ss m) ≡ true = ((both (eqb e.number m) (is_forked (stage_at ss m))).0 ok).1 in
      let was : StageIs L m Forked = subst (StageIs L m) (forked_is (stage_at ss m) f) (h m (omega (arith, c.limits))) in
      let ne : Ends m e → ⊥ = λ a. let z = letters_apart e q a.0 in omega arith in
      let now : StageIs (L ++ e ∷ []) m Running = (inr (was.0, still (Forks m) L e was.1, one_more (Begins m) L e (q, refl)), none_yet (Ends m) L e was.3 ne) in
      after_set ss m t Running Unborn (StageIs (L ++ e ∷ []) t) (omega (arith, c.limits))
      (λ s. subst (λ n. StageIs (L ++ e ∷ []) n Running) (sym s) now)
      (λ s. stage_still L e t (λ a. let z = letters_apart e q a.0 in omega arith) (λ a. s (sym a.1)) (λ a. let z = letters_apart e q a.0 in omega arith) (stage_at ss t) (h t k))

  ends : e.letter ≡ End → lives_by End e.thread e.number ss ≡ true → Staged (L ++ e ∷ []) (set ss e.thread Ended)
  ends q ok t k =
      let m = e.thread in
      let r : is_running (stage_at ss m) ≡ true = ((both (eqb e.number m) (is_running (stage_at ss m))).0 ok).1 in
      let was : StageIs L m Running = subst (StageIs L m) (running_is (stage_at ss m) r) (h m (omega (arith, c.limits))) in
      let nf : Forks m e → ⊥ = λ a. let z = letters_apart e q a.0 in omega arith in
      let now : StageIs (L ++ e ∷ []) m Ended = (started_still L e m nf was.0, one_more (Ends m) L e (q, refl)) in
      after_set ss m t Ended Unborn (StageIs (L ++ e ∷ []) t) (omega (arith, c.limits))
      (λ s. subst (λ n. StageIs (L ++ e ∷ []) n Ended) (sym s) now)
      (λ s. stage_still L e t (λ a. let z = letters_apart e q a.0 in omega arith) (λ a. let z = letters_apart e q a.0 in omega arith) (λ a. s (sym a.1)) (stage_at ss t) (h t k))

  -- the stages after an event that keeps the rule are right again
  staged_by : (l : Letter) → e.letter ≡ l → e.number < limit c l → lives_by l e.thread e.number ss ≡ true → Staged (L ++ e ∷ []) (lived_by l e.thread e.number ss)
  staged_by Read q ln ok = quiet Read q (λ z. omega arith) (λ z. omega arith) (λ z. omega arith)
  staged_by Write q ln ok = quiet Write q (λ z. omega arith) (λ z. omega arith) (λ z. omega arith)
  staged_by Acquire q ln ok = quiet Acquire q (λ z. omega arith) (λ z. omega arith) (λ z. omega arith)
  staged_by Release q ln ok = quiet Release q (λ z. omega arith) (λ z. omega arith) (λ z. omega arith)
  staged_by Fork q ln ok = forks q ln ok
  staged_by Join q ln ok = quiet Join q (λ z. omega arith) (λ z. omega arith) (λ z. omega arith)
  staged_by Begin q ln ok = begins q ok
  staged_by End q ln ok = ends q ok
  staged_by Strong q ln ok = quiet Strong q (λ z. omega arith) (λ z. omega arith) (λ z. omega arith)
  staged_by Weak q ln ok = quiet Weak q (λ z. omega arith) (λ z. omega arith) (λ z. omega arith)
  staged_by Downgrade q ln ok = quiet Downgrade q (λ z. omega arith) (λ z. omega arith) (λ z. omega arith)
  staged_by Stop q ln ok = quiet Stop q (λ z. omega arith) (λ z. omega arith) (λ z. omega arith)

  pub staged_more : e.number < limit c e.letter → lives ss e ≡ true → Staged (L ++ e ∷ []) (lived ss e)
  staged_more ln ok = staged_by e.letter refl ln ok

lived_by_length : (l : Letter) (t n : ℕ) (ss : List Stage) → length (lived_by l t n ss) ≡ length ss
lived_by_length Read t n ss = refl
lived_by_length Write t n ss = refl
lived_by_length Acquire t n ss = refl
lived_by_length Release t n ss = refl
lived_by_length Fork t n ss = length-set ss n Forked
lived_by_length Join t n ss = refl
lived_by_length Begin t n ss = length-set ss t Running
lived_by_length End t n ss = length-set ss t Ended
lived_by_length Strong t n ss = refl
lived_by_length Weak t n ss = refl
lived_by_length Downgrade t n ss = refl
lived_by_length Stop t n ss = refl

pub lived_long : (ss : List Stage) (e : Event) → length (lived ss e) ≡ length ss
lived_long ss e = lived_by_length e.letter e.thread e.number ss

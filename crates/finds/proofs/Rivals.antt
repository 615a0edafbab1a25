-- Which pairs stand in the list of what is found at one event.
use Rattle.std.proofs.Common.{◌≡◌, ℕ, zero, suc, ◌<◌, ◌≤◌, Bool, true, false, cond, eqb, ltb, ◌⊎◌, ◌↔◌, List, [], ◌∷◌, ◌++◌, Some, None, Option, sym, refl, ap, subst, inl, inr, ⊎_elim, arith}
use mathlib.Core.List.Memᴰ
use mathlib.Core.List.{Memᴰ}
use native.Mathlib.Decide.{dec_lt}
use Rattle.std.proofs.lemmas.Bool.{ltb-false, le-ltb, eqb-false, ne_eqb}
use Rattle.event.specs.declared.record.Event.{Event}
use Rattle.event.specs.Thins.{access}
use Rattle.order.specs.Marks.{entry}
use Rattle.order.specs.Runs.{Two}
use Rattle.finds.specs.Latest.{is_write_letter, is_read, latest}
use Rattle.finds.specs.Found.{unless_known, against, against_one, against_below, found_at}

abbrev Has : Two → List Two → Type 0
Has p fs = Memᴰ p fs

-- i is the access, the later one is j, and i is not among the places that lead to j
pub record Unknown (known : ℕ) (j : Event) (o : Option Event) (p : Two) : Type 0 where
  pub access : o ≡ Some p.0
  pub later : p.1 ≡ j
  pub unknown : known ≤ p.0.place

pub unless_has : (known : ℕ) (j : Event) (o : Option Event) (p : Two) → Has p (unless_known known j o) ↔ Unknown known j o p
unless_has known j None p = (λ m. absurd (Memᴰ.not-nil m), λ h. absurd (none h.access))
  where
    none : None ≡ Some p.0 → ⊥
    none e = let z : ◌≡◌ {A = ℕ} 0 1 = cc in omega arith
unless_has known j (Some i) p = (out (ltb i.place known) refl, into)
  where
    out : (b : Bool) → ltb i.place known ≡ b → Has p (cond b [] ((i, j) ∷ [])) → Unknown known j (Some i) p
    out true q m = absurd (Memᴰ.not-nil m)
    out false q m =
        let s = Memᴰ.eq_of_singleton m in
        record {
          access = ap (λ (t : Two). Some t.0) (sym s);
          later = ap (λ (t : Two). t.1) s;
          unknown = omega (arith, ltb-false _ _ q, ap (λ (t : Two). t.0.place) s);
        }

    into : Unknown known j (Some i) p → Has p (cond (ltb i.place known) [] ((i, j) ∷ []))
    into h =
        let s : i ≡ p.0 = cc h.access in
        let low : known ≤ i.place = omega (arith, h.unknown, ap (λ (e : Event). e.place) s) in
        subst (λ b. Has p (cond b [] ((i, j) ∷ []))) (sym (le-ltb _ _ low)) (Memᴰ.head (λ k. (sym s k, h.later k)))

-- p is a finding of j against the thread u, after the events T
pub record Rival (known : ℕ) (T : List Event) (j : Event) (u : ℕ) (p : Two) : Type 0 where
  pub apart : u ≡ j.thread → ⊥
  pub kind : Unknown known j (latest is_write_letter u j.number T) p ⊎ ((is_write_letter j.letter ≡ true) × Unknown known j (latest is_read u j.number T) p)

against_has : (known : ℕ) (j : Event) (w r : Option Event) (p : Two) → Has p (against known j w r) ↔ (Unknown known j w p ⊎ ((is_write_letter j.letter ≡ true) × Unknown known j r p))
against_has known j w r p = (out, into)
  where
    second : (b : Bool) → Has p (cond b (unless_known known j r) []) → (b ≡ true) × Unknown known j r p
    second true m = (refl, (unless_has known j r p).0 m)
    second false m = absurd (Memᴰ.not-nil m)

    out : Has p (against known j w r) → Unknown known j w p ⊎ ((is_write_letter j.letter ≡ true) × Unknown known j r p)
    out m = ⊎_elim (λ a. inl ((unless_has known j w p).0 a)) (λ b. inr (second (is_write_letter j.letter) b)) (Memᴰ.append_cases (unless_known known j w) m)

    into : Unknown known j w p ⊎ ((is_write_letter j.letter ≡ true) × Unknown known j r p) → Has p (against known j w r)
    into (inl h) = Memᴰ.append_left _ ((unless_has known j w p).1 h)
    into (inr h) =
        Memᴰ.append_right (unless_known known j w) (subst (λ b. Has p (cond b (unless_known known j r) [])) (sym h.0) ((unless_has known j r p).1 h.1))

abbrev both_kinds : ℕ → List Event → Event → ℕ → List Two
both_kinds known T j u = against known j (latest is_write_letter u j.number T) (latest is_read u j.number T)

pub thread_has : (known : ℕ) (T : List Event) (j : Event) (u : ℕ) (p : Two) → Has p (against_one known T j u) ↔ Rival known T j u p
thread_has known T j u p = (out (eqb u j.thread) refl, into)
  where
    out : (b : Bool) → eqb u j.thread ≡ b → Has p (cond b [] (both_kinds known T j u)) → Rival known T j u p
    out true q m = absurd (Memᴰ.not-nil m)
    out false q m = record { apart = eqb-false _ _ q; kind = (against_has known j _ _ p).0 m }

    into : Rival known T j u p → Has p (cond (eqb u j.thread) [] (both_kinds known T j u))
    into h = subst (λ b. Has p (cond b [] (both_kinds known T j u))) (sym (ne_eqb _ _ h.apart)) ((against_has known j _ _ p).1 h.kind)

-- for j after T: the entry of j's thread for u, once j is told
abbrev pub known_of : List Event → Event → ℕ → ℕ
known_of T j u = entry (T ++ j ∷ []) j.thread u

pub record Below (n : ℕ) (T : List Event) (j : Event) (p : Two) : Type 0 where
  pub thread : ℕ
  pub below : thread < n
  pub rival : Rival (known_of T j thread) T j thread p

pub below_has : (n : ℕ) (T : List Event) (j : Event) (p : Two) → Has p (against_below n T j) ↔ Below n T j p
unfolding against_below
below_has zero T j p = (λ m. absurd (Memᴰ.not-nil m), λ h. absurd (let b = h.below in omega arith))
below_has (suc n) T j p = (
  λ m.
      ⊎_elim
      (λ a. let h = (below_has n T j p).0 a in record { thread = h.thread; below = omega (arith, h.below); rival = h.rival })
      (λ b. record { thread = n; below = omega arith; rival = (thread_has (known_of T j n) T j n p).0 b })
      (Memᴰ.append_cases (against_below n T j) m),
  λ h.
      elim (dec_lt h.thread n) [
        | yes lt ↦ Memᴰ.append_left _ ((below_has n T j p).1 (record { thread = h.thread; below = lt; rival = h.rival }))
        | no ge ↦
            let same : h.thread ≡ n = omega (arith, h.below) in
            Memᴰ.append_right (against_below n T j) ((thread_has (known_of T j n) T j n p).1 (subst (λ u. Rival (known_of T j u) T j u p) same h.rival))
      ],
)

pub at_has : (n : ℕ) (T : List Event) (j : Event) (p : Two) → Has p (found_at n T j) ↔ ((access j ≡ true) × Below n T j p)
at_has n T j p = (out (access j), into)
  where
    out : (b : Bool) → Has p (cond b (against_below n T j) []) → (b ≡ true) × Below n T j p
    out true m = (refl, (below_has n T j p).0 m)
    out false m = absurd (Memᴰ.not-nil m)

    into : (access j ≡ true) × Below n T j p → Has p (found_at n T j)
    into h = subst (λ b. Has p (cond b (against_below n T j) [])) (sym h.0) ((below_has n T j p).1 h.1)

-- Entries: what the bound of the ticks behind a thread gives, and that the computed ones are right.
use Rattle.std.proofs.Common.{◌≡◌, ℕ, suc, ◌≤◌, Bool, true, false, cond, eqb, ◌⊎◌, List, [], ◌∷◌, sym, refl, ◌∙◌, subst, inl, inr, ⊎_elim, arith, eq-eqb, eqb-true}
use mathlib.Core.Path.{fun_ext}
use mathlib.Core.Bool.{Bool-discrete}
use mathlib.Core.List.Memᴰ
use native.Mathlib.Decide.{ℕ_discrete}
use Rattle.event.specs.declared.record.Event.{Event}
use Rattle.event.specs.Order.{◌∈◌}
use Rattle.event.specs.Thins.{Rising}
use Rattle.event.specs.Entries.{Reaches}
use Rattle.order.specs.Stamps.{Laws, Deed, deeds, Bound}
use Rattle.order.specs.Marks.{Clock, tick, larger, zeros, entry, reaches}
use Rattle.event.specs.Entries.{IsEntry, nothing, highest}
use Rattle.order.proofs.Chaining.{chain_first}
use Rattle.order.proofs.Deeds.{deed, events_deeds, deed_in, deed_of}
use Rattle.order.proofs.Joins.{laws_of_bounds}
use Rattle.order.proofs.Finding.{latest, both}
use Rattle.order.proofs.Stamping.{stamps_reached}
use Rattle.order.proofs.Marking.{reaches_iff}

abbrev Below : Clock → Clock → Type 0
Below c d = (u : ℕ) → c u ≤ d u

clock_laws : Laws Below larger zeros
clock_laws =
    laws_of_bounds
    (λ x u. omega arith)
    (λ x y z a b u. omega (arith, a u, b u))
    (λ x y a b. fun_ext (λ u. omega (arith, a u, b u)))
    (λ x y u. omega arith)
    (λ x y u. omega arith)
    (λ x y z a b u. omega (arith, a u, b u))
    (λ x u. omega arith)

-- which events of u reach t is decided
module _ (L : List Event) (r : Rising L) (t u : ℕ) where
  Known : Event → Type 0
  Known e = (e.thread ≡ u) × (reaches L e.place t ≡ true)

  known? : (e : Event) → Dec (Known e)
  unfolding Known
  known? e = both (ℕ_discrete e.thread u) (Bool-discrete (reaches L e.place t) true)

  knows : (e : Event) → e.thread ≡ u → Reaches L e t → Known e
  unfolding Known
  knows e s c = (s, (reaches_iff L r e (chain_first c.chain) t).1 c)

  some_known : (M : List Event) → ((e : Event) × (e ∈ M) × Known e) ⊎ ((e : Event) → e ∈ M → Known e → ⊥)
  some_known [] = inr (λ e i k. Memᴰ.not-nil i)
  some_known (x ∷ M) = go (known? x) (some_known M)
    where
      go : Dec (Known x) → (((e : Event) × (e ∈ M) × Known e) ⊎ ((e : Event) → e ∈ M → Known e → ⊥)) → ((e : Event) × (e ∈ (x ∷ M)) × Known e) ⊎ ((e : Event) → e ∈ (x ∷ M) → Known e → ⊥)
      go (yes k) o = inl (x, Memᴰ.head refl, k)
      go (no h) (inl s) = inl (s.0, Memᴰ.tail s.1, s.2)
      go (no h) (inr f) = inr (λ e i k. ⊎_elim (λ s. h (subst Known s k)) (λ n. f e n k) (Memᴰ.cases_cons i))

  pub some_reaches : ((e : Event) × (e.thread ≡ u) × Reaches L e t) ⊎ ((e : Event) → e.thread ≡ u → Reaches L e t → ⊥)
  unfolding Known
  some_reaches = go (some_known L)
    where
      go : (((e : Event) × (e ∈ L) × Known e) ⊎ ((e : Event) → e ∈ L → Known e → ⊥)) → ((e : Event) × (e.thread ≡ u) × Reaches L e t) ⊎ ((e : Event) → e.thread ≡ u → Reaches L e t → ⊥)
      go (inl s) = inl (s.0, s.2.0, (reaches_iff L r s.0 s.1 t).0 s.2.1)
      go (inr f) = inr (λ e w c. f e (chain_first c.chain) (knows e w c))

-- A number that bounds the places of u's events that reach t from above, and no more than that, is the entry.
module _ (L : List Event) (r : Rising L) (t u m : ℕ)
    (upper : (e : Event) → e.thread ≡ u → Reaches L e t → suc e.place ≤ m)
    (least : (n : ℕ) → ((e : Event) → e.thread ≡ u → Reaches L e t → suc e.place ≤ n) → m ≤ n) where
  pub is_entry : IsEntry L t u m
  unfolding Known
  is_entry = go (some_reaches L r t u)
    where
      go : (((e : Event) × (e.thread ≡ u) × Reaches L e t) ⊎ ((e : Event) → e.thread ≡ u → Reaches L e t → ⊥)) → IsEntry L t u m
      go (inr none) = let z = least 0 (λ e s c. absurd (none e s c)) in nothing (omega arith) none
      go (inl s) =
          let l = latest (Known L r t u) (known? L r t u) L s.0 (knows L r t u s.0 s.1 s.2) in
          let k = l.0 in
          let i : k ∈ L = ⊎_elim (λ e. Memᴰ.cast e (chain_first s.2.chain)) (λ h. h.0) l.1.from in
          let c = (reaches_iff L r k i t).0 l.1.held.1 in
          let top = λ (f : Event) (w : f.thread ≡ u) (d : Reaches L f t). l.1.last f (chain_first d.chain) (knows L r t u f w d) in
          let up = upper k l.1.held.0 c in
          let low = least (suc k.place) (λ f w d. omega (arith, top f w d)) in
          highest k l.1.held.0 c (omega arith) top

-- a thread has one entry for another
pub entry_once : {L : List Event} {t u m n : ℕ} → IsEntry L t u m → IsEntry L t u n → m ≡ n
entry_once (nothing p f) (nothing q g) = omega arith
entry_once (nothing p f) (highest e s c q top) = absurd (f e s c)
entry_once (highest e s c p top) (nothing q g) = absurd (g e s c)
entry_once (highest e s c p top) (highest f w d q tip) = let a = top f w d in let b = tip e s c in omega arith

module _ (L : List Event) (r : Rising L) (t u : ℕ) where
  bound : Bound Below (deeds tick L) (λ e. Reaches L e t) (λ v. entry L t v)
  bound =
      subst (λ M. Bound Below (deeds tick L) (λ e. Reaches M e t) (λ v. entry L t v)) (events_deeds tick L)
      (stamps_reached clock_laws (deeds tick L) (subst Rising (sym (events_deeds tick L)) r) t)

  pub entry_upper : (e : Event) → e.thread ≡ u → Reaches L e t → suc e.place ≤ entry L t u
  entry_upper e s c =
      let h = bound.upper (deed tick e) (deed_in tick L (chain_first c.chain)) c u in
      let b : eqb e.thread u ≡ true = eq-eqb _ _ s in
      rw b at h

  -- n bounds what the events of u give
  entry_least : (n : ℕ) → ((e : Event) → e.thread ≡ u → Reaches L e t → suc e.place ≤ n) → entry L t u ≤ n
  entry_least n k =
      let h = bound.least other (λ y m c v. subst (λ (d : Deed Clock). d.gives v ≤ other v) (sym (deed_of tick L y m).0) (at y.event v c (eqb v u) refl (eqb y.event.thread v) refl)) u in
      let b : eqb u u ≡ true = eq-eqb u u refl in
      rw b at h
    where
      other : Clock
      other v = cond (eqb v u) n (entry L t v)

      at : (e : Event) (v : ℕ) → Reaches L e t → (b : Bool) → eqb v u ≡ b → (d : Bool) → eqb e.thread v ≡ d → cond d (suc e.place) 0 ≤ cond b n (entry L t v)
      at e v c true p true q = k e (eqb-true _ _ q ∙ eqb-true _ _ p) c
      at e v c true p false q = omega arith
      at e v c false p true q =
          let h = bound.upper (deed tick e) (deed_in tick L (chain_first c.chain)) c v in rw q at h
      at e v c false p false q = omega arith

  pub entry_right : IsEntry L t u (entry L t u)
  entry_right = is_entry L r t u (entry L t u) entry_upper entry_least

-- The ends of a region, computed.
use Rattle.std.proofs.Common.{◌≡◌, ℕ, zero, suc, ◌+◌, ◌<◌, ◌≤◌, Bool, true, false, cond, ◌&&◌, eqb, ltb, ◌↔◌, List, [], ◌∷◌, length, get_or, take, drop, Some, None, Option, sym, refl, ap, ◌∙◌, subst, arith, length-drop, length-take, get_or-drop, get_or-take, ltb-true, lt-ltb, eq-eqb, eqb-true}
use mathlib.Core.Bool.{false≢true}
use mathlib.Core.List.Memᴰ
use Rattle.std.proofs.lemmas.Bool.{and_from, and_parts}
use Rattle.event.specs.declared.object.Object.{Object}
use Rattle.event.specs.declared.record.Event.{Event}
use Rattle.event.specs.Objects.{released, acquired}
use Rattle.event.specs.Order.{◌∈◌}
use Rattle.event.specs.Thins.{Rising}
use Rattle.order.specs.Regions.{Region, any_object, acquire_before, release_after, opens_from, closes_from, opens, closes}
use Rattle.order.proofs.Places.{blank, at_in, in_at, index_once, index_drop}

and_intro : (a b c : Bool) → a ≡ true → b ≡ true → c ≡ true → (a && (b && c)) ≡ true
and_intro a b c p q r = and_from a (b && c) p (and_from b c q r)

and_elim : (a b c : Bool) → (a && (b && c)) ≡ true → (a ≡ true) × (b ≡ true) × (c ≡ true)
and_elim a b c h = let w = and_parts a (b && c) h in let v = and_parts b c w.1 in (w.0, v.0, v.1)

any_some : (a : Option Object) → any_object a ≡ true → (o : Object) × (a ≡ Some o)
any_some None h = absurd (false≢true h)
any_some (Some o) h = (o, refl)

module _ (p : Event) where
  opens_past : (i j : ℕ) (L : List Event) → j < length L → acquire_before (get_or L j blank) p ≡ true → i + j < opens_from i L p
  opens_past i j [] lt t = absurd (omega arith)
  opens_past i zero (x ∷ L) lt t = rw t (omega arith)
  opens_past i (suc j) (x ∷ L) lt t = let later = opens_past (suc i) j L (omega arith) t in omega arith

  opens_tight : (i : ℕ) (L : List Event) (k : ℕ) → ((j : ℕ) → j < length L → acquire_before (get_or L j blank) p ≡ true → i + j < k) → opens_from i L p ≤ k
  opens_tight i [] k h = omega arith
  opens_tight i (x ∷ L) k h =
      let rest = opens_tight (suc i) L k (λ j lt t. let b = h (suc j) (omega arith) t in omega arith) in
      let one = first (acquire_before x p) refl in
      omega arith
    where
      first : (b : Bool) → acquire_before x p ≡ b → cond (acquire_before x p) (suc i) 0 ≤ k
      first true e = let lt = h 0 (omega arith) e in rw e (omega arith)
      first false e = rw e (omega arith)

  closes_by : (i j : ℕ) (L : List Event) → j < length L → release_after (get_or L j blank) p ≡ true → closes_from i L p ≤ i + j
  closes_by i j [] lt t = absurd (omega arith)
  closes_by i zero (x ∷ L) lt t = rw t (omega arith)
  closes_by i (suc j) (x ∷ L) lt t = go (release_after x p) (closes_by (suc i) j L (omega arith) t)
    where
      go : (b : Bool) → closes_from (suc i) L p ≤ suc i + j → cond b i (closes_from (suc i) L p) ≤ i + suc j
      go true h = omega arith
      go false h = omega arith

  closes_tight : (i : ℕ) (L : List Event) (k : ℕ) → k ≤ i + length L → ((j : ℕ) → j < length L → release_after (get_or L j blank) p ≡ true → k ≤ i + j) → k ≤ closes_from i L p
  closes_tight i [] k q h = omega arith
  closes_tight i (x ∷ L) k q h = go (release_after x p) refl (closes_tight (suc i) L k (omega arith) (λ j lt t. let b = h (suc j) (omega arith) t in omega arith))
    where
      go : (b : Bool) → release_after x p ≡ b → k ≤ closes_from (suc i) L p → k ≤ cond b i (closes_from (suc i) L p)
      go true e rest = let low = h 0 (omega arith) e in omega arith
      go false e rest = rest

module _ (L : List Event) (up : Rising L) (k : ℕ) (le : k ≤ length L) where
  -- an event is among the first k exactly where its index is below k, since it has one index
  pub front_in : (j : ℕ) → j < k → get_or L j blank ∈ take k L
  front_in j lt =
      let here : j < length (take k L) = omega (arith, length-take k L) in
      Memᴰ.cast (sym (get_or-take k L j blank lt)) (at_in (take k L) j blank here)

  pub front_at : (j : ℕ) → j < length L → get_or L j blank ∈ take k L → j < k
  front_at j lj m =
      let h = in_at (take k L) blank m in
      let lt : h.0 < k = omega (arith, h.1, length-take k L) in
      let same = index_once L up h.0 j blank (omega (arith, h.1, length-take k L)) lj (sym (get_or-take k L h.0 blank lt) ∙ h.2) in
      omega arith

  pub back_at : (j : ℕ) → j < length L → get_or L j blank ∈ drop k L → k ≤ j
  back_at j lj m =
      let h = in_at (drop k L) blank m in
      let same = index_once L up (k + h.0) j blank (omega (arith, h.1, length-drop k L)) lj (sym (get_or-drop k L h.0 blank) ∙ h.2) in
      omega arith

pub region_iff : (L : List Event) → Rising L → (p : Event) (k : ℕ) → k ≤ length L → ((opens L p ≤ k) × (k ≤ closes L p)) ↔ Region L p k
region_iff L up p k le = (
  λ h. record {
    opened = λ a o m s t lt.
        let i = in_at L blank m in
        let test = and_intro (eqb a.thread p.thread) (any_object (acquired a)) (ltb a.place p.place) (eq-eqb _ _ s) (ap any_object t) (lt-ltb _ _ lt) in
        let past = opens_past p 0 i.0 L i.1 (subst (λ v. acquire_before v p ≡ true) (sym i.2) test) in
        Memᴰ.cast (sym i.2) (front_in L up k le i.0 (omega (arith, h.0)));
    closed = λ r o m s t lt.
        let i = in_at L blank m in
        let test = and_intro (eqb r.thread p.thread) (any_object (released r)) (ltb p.place r.place) (eq-eqb _ _ s) (ap any_object t) (lt-ltb _ _ lt) in
        let by = closes_by p 0 i.0 L i.1 (subst (λ v. release_after v p ≡ true) (sym i.2) test) in
        Memᴰ.cast (sym i.2) (index_drop L i.0 k i.1 (omega (arith, h.1)));
  },
  λ g. (
    opens_tight p 0 L k (λ j lt t.
        let a = get_or L j blank in
        let w = and_elim (eqb a.thread p.thread) (any_object (acquired a)) (ltb a.place p.place) t in
        let o = any_some (acquired a) w.1 in
        let b = front_at L up k le j lt (g.opened a o.0 (at_in L j blank lt) (eqb-true _ _ w.0) o.1 (ltb-true _ _ w.2)) in
        omega arith),
    closes_tight p 0 L k (omega arith) (λ j lt t.
        let r = get_or L j blank in
        let w = and_elim (eqb r.thread p.thread) (any_object (released r)) (ltb p.place r.place) t in
        let o = any_some (released r) w.1 in
        let b = back_at L up k le j lt (g.closed r o.0 (at_in L j blank lt) (eqb-true _ _ w.0) o.1 (ltb-true _ _ w.2)) in
        omega arith),
  ),
)

-- The latest event of a kind is the one with the highest place.
use Rattle.std.proofs.Common.{◌≡◌, ℕ, ◌≤◌, Bool, true, false, cond, eqb, List, [], ◌∷◌, ◌++◌, Some, None, Option, refl, ap, ◌∙◌, subst, ⊎_elim, arith}
use mathlib.Core.List.Memᴰ
use Rattle.std.proofs.lemmas.Bool.{both_ways, and_parts, and_from, eqb-true, eq-eqb}
use Rattle.event.specs.declared.letter.Letter.{Letter}
use Rattle.event.specs.declared.letter.Letter.TheVariants.{Read, Write, Acquire, Release, Fork, Join, Begin, End, Strong, Weak, Downgrade, Stop}
use Rattle.event.specs.declared.record.Event.{Event}
use Rattle.event.specs.Order.{◌∈◌}
use Rattle.event.specs.Thins.{Rising}
use Rattle.order.proofs.Front.{same_place, after_each}
use Rattle.finds.specs.Latest.{is_write_letter, is_read, touches, or_else, latest}

pub write_is : (l : Letter) → is_write_letter l ≡ true → l ≡ Write
write_is Read h = absurd (both_ways false refl h)
write_is Write h = refl
write_is Acquire h = absurd (both_ways false refl h)
write_is Release h = absurd (both_ways false refl h)
write_is Fork h = absurd (both_ways false refl h)
write_is Join h = absurd (both_ways false refl h)
write_is Begin h = absurd (both_ways false refl h)
write_is End h = absurd (both_ways false refl h)
write_is Strong h = absurd (both_ways false refl h)
write_is Weak h = absurd (both_ways false refl h)
write_is Downgrade h = absurd (both_ways false refl h)
write_is Stop h = absurd (both_ways false refl h)

pub read_is : (l : Letter) → is_read l ≡ true → l ≡ Read
read_is Read h = refl
read_is Write h = absurd (both_ways false refl h)
read_is Acquire h = absurd (both_ways false refl h)
read_is Release h = absurd (both_ways false refl h)
read_is Fork h = absurd (both_ways false refl h)
read_is Join h = absurd (both_ways false refl h)
read_is Begin h = absurd (both_ways false refl h)
read_is End h = absurd (both_ways false refl h)
read_is Strong h = absurd (both_ways false refl h)
read_is Weak h = absurd (both_ways false refl h)
read_is Downgrade h = absurd (both_ways false refl h)
read_is Stop h = absurd (both_ways false refl h)

module _ (kind : Letter → Bool) (u v : ℕ) where
  pub record Touches (e : Event) : Type 0 where
    pub letter : kind e.letter ≡ true
    pub thread : e.thread ≡ u
    pub number : e.number ≡ v

  pub touches_true : (e : Event) → touches kind u v e ≡ true → Touches e
  touches_true e h =
      let p = and_parts (kind e.letter) _ h in
      let q = and_parts (eqb e.thread u) (eqb e.number v) p.1 in
      record { letter = p.0; thread = eqb-true _ _ q.0; number = eqb-true _ _ q.1 }

  pub true_touches : (e : Event) → Touches e → touches kind u v e ≡ true
  true_touches e h = and_from _ _ h.letter (and_from _ _ (eq-eqb _ _ h.thread) (eq-eqb _ _ h.number))

  -- no event of T is of the kind, or i is the last one that is
  pub data Last (T : List Event) : Option Event → Type 0 where
    none : ((k : Event) → k ∈ T → touches kind u v k ≡ true → ⊥) → Last T None
    some : (i : Event) → i ∈ T → touches kind u v i ≡ true → ((k : Event) → k ∈ T → touches kind u v k ≡ true → k.place ≤ i.place) → Last T (Some i)

  pub latest_last : (T : List Event) → Rising T → Last T (latest kind u v T)
  latest_last [] r = none (λ k m h. Memᴰ.not-nil m)
  latest_last (e ∷ T) r = go (latest_last T r.1) (touches kind u v e) refl
    where
      go : {o : Option Event} → Last T o → (b : Bool) → touches kind u v e ≡ b → Last (e ∷ T) (or_else o (cond b (Some e) None))
      go (none h) true p = some e (Memᴰ.head refl) p (λ k m q. ⊎_elim (λ s. omega (arith, same_place s)) (λ n. absurd (h k n q)) (Memᴰ.cases_cons m))
      go (none h) false p = none (λ k m q. ⊎_elim (λ s. both_ways (touches kind u v k) (ap (touches kind u v) s ∙ p) q) (λ n. h k n q) (Memᴰ.cases_cons m))
      go (some i m p h) b q = some i (Memᴰ.tail m) p (λ k n t. ⊎_elim (λ s. omega (arith, same_place s, after_each e T r.0 m)) (λ j. h k j t) (Memᴰ.cases_cons n))

  -- what is looked up is an event of the list, of the kind
  pub looked_up : (T : List Event) → Rising T → (i : Event) → latest kind u v T ≡ Some i → (i ∈ T) × Touches i
  looked_up T r i e = go (latest_last T r) e
    where
      go : {o : Option Event} → Last T o → o ≡ Some i → (i ∈ T) × Touches i
      go (none h) s = absurd (let z : ◌≡◌ {A = ℕ} 0 1 = cc in omega arith)
      go (some k m t h) s = let same : k ≡ i = cc in subst (λ x. (x ∈ T) × Touches x) same (m, touches_true k t)

  -- one event more is the latest, if it is of the kind
  pub latest_push : (T : List Event) (e : Event) → latest kind u v (T ++ e ∷ []) ≡ cond (touches kind u v e) (Some e) (latest kind u v T)
  latest_push [] e = refl
  latest_push (x ∷ T) e = ap (λ o. or_else o (cond (touches kind u v x) (Some x) None)) (latest_push T e) ∙ go (touches kind u v e)
    where
      go : (b : Bool) → or_else (cond b (Some e) (latest kind u v T)) (cond (touches kind u v x) (Some x) None) ≡ cond b (Some e) (or_else (latest kind u v T) (cond (touches kind u v x) (Some x) None))
      go true = refl
      go false = refl

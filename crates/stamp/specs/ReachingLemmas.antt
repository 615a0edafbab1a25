-- Sets of threads keep the laws of stamps, and their size counts the threads behind a thread.
use Rattle.std.specs.Prelude.{◌≡◌, ℕ, ◌^◌, ◌<◌, Bool, true, false, cond, ◌⊎◌, List, [], ◌∷◌, ◌==◌, ◌≢◌, count_ones, nat_lt, refl}
use Rattle.std.proofs.Common.{sym, ap, subst, ◌∙◌, inl, inr, ⊎_elim, arith, le_refl, zero-add, eqb-true, lt-ltb}
use mathlib.Core.List.Memᴰ
use Rattle.std.proofs.lemmas.Bool.{cases_eq, cond-true, eqb-false}
use Rattle.event.specs.declared.record.Event.{Event}
use Rattle.event.specs.Order.{◌∈◌}
use Rattle.event.specs.Thins.{Rising}
use Rattle.event.proofs.Members.{every_in}
use Rattle.order.specs.Stamps.{Laws, Deed, deeds, Behind, Bound}
use Rattle.order.proofs.Behind.{behind_iff}
use Rattle.order.proofs.Chaining.{chain_first}
use Rattle.order.proofs.Deeds.{deed, deed_in, deed_of}
use Rattle.order.proofs.Entries.{some_reaches}
use Rattle.order.proofs.Joins.{laws_of_bounds}
use Rattle.stamp.specs.declared.reach.Reach.{Reach}
use Rattle.stamp.specs.Reaching.{digit, Has, Subset, union, nobody, only, visit, HoldsOf, Felt, Few, CountsThreads}
use Rattle.stamp.specs.Digits.{digit_small, digit_zero, digit_or, digit_own, digit_other, by_digits, places_of, places_many, places_once, place_digit, digit_place}

-- two digits that are 1 together are the same
same_digit : (a b : ℕ) → a < 2 → b < 2 → (a ≡ 1 → b ≡ 1) → (b ≡ 1 → a ≡ 1) → a ≡ b
same_digit a b la lb f g = ⊎_elim (λ e. omega (arith, e, f e)) (λ ne. ⊎_elim (λ e. absurd (ne (g e))) (λ me. omega (arith, ne, me)) (cases_eq b 1)) (cases_eq a 1)

union_has : (x y : Reach) (u : ℕ) → Has (union x y) u → Has x u ⊎ Has y u
union_has x y u h =
    ⊎_elim
    inl
    (λ ne. inr (omega (arith, h, ne, digit_or u x.members y.members, digit_small u x.members, digit_small u y.members)))
    (cases_eq (digit u x.members) 1)

has_left : (x y : Reach) (u : ℕ) → Has x u → Has (union x y) u
has_left x y u h = omega (arith, h, digit_or u x.members y.members, digit_small u y.members)

has_right : (x y : Reach) (u : ℕ) → Has y u → Has (union x y) u
has_right x y u h = omega (arith, h, digit_or u x.members y.members, digit_small u x.members)

nobody_has : (u : ℕ) → Has nobody u → ⊥
nobody_has u h = omega (arith, h, digit_zero u)

pub reach_laws : Laws Subset union nobody
reach_laws =
    laws_of_bounds
    (λ x u h. h)
    (λ x y z p q u h. q u (p u h))
    (λ x y p q. ap of_members (by_digits x.members y.members (λ u. same_digit (digit u x.members) (digit u y.members) (digit_small u x.members) (digit_small u y.members) (p u) (q u))))
    has_left
    has_right
    (λ x y z p q u h. ⊎_elim (p u) (q u) (union_has x y u h))
    (λ x u h. absurd (nobody_has u h))
  where
    of_members : ℕ → Reach
    of_members n = record { members = n }

only_members : (t : ℕ) → t < 16 → (only t).members ≡ 2 ^ t
only_members t lt = cond-true (nat_lt t 16) (2 ^ t) 0 (lt-ltb t 16 lt)

only_own : (t : ℕ) → t < 16 → Has (only t) t
only_own t lt = ap (digit t) (only_members t lt) ∙ digit_own t

only_other : (t u : ℕ) → (t ≢ u) → Has (only t) u → ⊥
only_other t u ne h = go (nat_lt t 16) h
  where
    go : (b : Bool) → digit u (cond b (2 ^ t) 0) ≢ 1
    go true k = omega (arith, k, digit_other t u ne)
    go false k = omega (arith, k, digit_zero u)

-- the threads of the list but u
others : ℕ → List Event → Reach
others u [] = nobody
others u (e ∷ L) = cond (e.thread == u) (others u L) (union (only e.thread) (others u L))

others_lack : (u : ℕ) (L : List Event) → Has (others u L) u → ⊥
unfolding others
others_lack u [] h = nobody_has u h
others_lack u (e ∷ L) h = go (e.thread == u) refl (others_lack u L) h
  where
    go : (b : Bool) → (e.thread == u) ≡ b → (Has (others u L) u → ⊥) → Has (cond b (others u L) (union (only e.thread) (others u L))) u → ⊥
    go true p rest h = rest h
    go false p rest h = ⊎_elim (only_other e.thread u (eqb-false _ _ p)) rest (union_has (only e.thread) (others u L) u h)

others_have : (u : ℕ) (L : List Event) {e : Event} → e ∈ L → (e.thread ≢ u) → Subset (only e.thread) (others u L)
unfolding others
others_have u [] {e} m ne v h = absurd (Memᴰ.not-nil m)
others_have u (x ∷ L) {e} m ne v h =
    ⊎_elim
    (λ s. here (x.thread == u) refl (subst (λ (w : Event). w.thread ≢ u) s ne) (subst (λ (w : Event). Has (only w.thread) v) s h))
    (λ n. there (x.thread == u) (others_have u L n ne v h))
    (Memᴰ.cases_cons m)
  where
    here : (b : Bool) → (x.thread == u) ≡ b → (x.thread ≢ u) → Has (only x.thread) v → Has (cond b (others u L) (union (only x.thread) (others u L))) v
    here true p no_u k = absurd (no_u (eqb-true _ _ p))
    here false p no_u k = has_left (only x.thread) (others u L) v k

    there : (b : Bool) → Has (others u L) v → Has (cond b (others u L) (union (only x.thread) (others u L))) v
    there true k = k
    there false k = has_right (only x.thread) (others u L) v k

-- The set bounds the thread of each event behind t from above. Were u in it with no event behind t, the other threads would be
-- a smaller bound.
module _ (s : Reach) (L : List Event) (t : ℕ) (up : Rising L) (few : Few L) (bound : Bound Subset (deeds visit L) (λ e. Behind L e t) s) where
  felt_has : (u : ℕ) → Felt L t u → Has s u
  felt_has u f =
      let e = f.event in
      let m = chain_first f.behind.chain in
      bound.upper (deed visit e) (deed_in visit L m) f.behind u (subst (λ v. Has (only e.thread) v) f.of (only_own e.thread (every_in (λ (v : Event). v.thread < 16) L few m)))

  has_felt : (u : ℕ) → Has s u → Felt L t u
  has_felt u h =
      ⊎_elim
      (λ f. record { event = f.0; of = f.1; behind = (behind_iff L up f.0 t).0 f.2 })
      (λ none. absurd (others_lack u L (bound.least (others u L) (λ y m b.
      let v = deed_of visit L y m in
      subst (λ (d : Deed Reach). Subset d.gives (others u L)) (sym v.0) (others_have u L v.1 (λ w. none y.event w ((behind_iff L up y.event t).1 b)))) u h)))
      (some_reaches L up t u)

  holds_of : HoldsOf (Felt L t) (count_ones s.members)
  holds_of =
      let n = s.members in
      record {
        which = places_of n 0 n;
        once = places_once n 0 n;
        exact = λ u. (
          λ m. let k = place_digit n 0 n u m in has_felt u (subst (λ v. Has s v) (sym (k.1 ∙ zero-add k.0)) k.2),
          λ f. Memᴰ.cast (sym (zero-add u)) (digit_place n 0 n u (le_refl n) (felt_has u f)),
        );
        many = places_many n 0 n (le_refl n);
      }

pub counts_threads : (s : Reach) → CountsThreads s (count_ones s.members)
counts_threads s L t up few bound = holds_of s L t up few bound

-- A chain does not leave the part before its last event.
use Rattle.std.proofs.Common.{◌≡◌, ◌<◌, ◌↔◌, List, [], ◌∷◌, ◌++◌, sym, ap, ◌∙◌, ⊎_elim, arith}
use mathlib.Core.List.Memᴰ
use Rattle.event.specs.declared.record.Event.{Event}
use Rattle.event.specs.Order.{◌∈◌, Chain, start, more}
use Rattle.event.specs.Thins.{After, Rising}
use Rattle.event.proofs.Sounds.{after_front}
use Rattle.order.proofs.Chaining.{chain_last, chain_within}

pub same_place : {e f : Event} → e ≡ f → e.place ≡ f.place
same_place s = ap (λ (v : Event). v.place) s

pub after_each : {e : Event} (x : Event) (L : List Event) → After x L → e ∈ L → x.place < e.place
after_each x [] a m = absurd (Memᴰ.not-nil m)
after_each x (y ∷ L) a m = ⊎_elim (λ s. omega (arith, same_place s, a.0)) (λ n. after_each x L a.1 n) (Memᴰ.cases_cons m)

pub before_each : {e f : Event} (L M : List Event) → Rising (L ++ M) → f ∈ L → e ∈ M → f.place < e.place
before_each [] M r m n = absurd (Memᴰ.not-nil m)
before_each (x ∷ L) M r m n =
    ⊎_elim
    (λ s. omega (arith, same_place s, after_each x (L ++ M) r.0 (Memᴰ.append_right L n)))
    (λ k. before_each L M r.1 k n)
    (Memᴰ.cases_cons m)

module _ (L M : List Event) (r : Rising (L ++ M)) where
  pub stays : {e f : Event} → e ∈ L ++ M → f ∈ L → e.place < f.place → e ∈ L
  stays m j lt = ⊎_elim (λ i. i) (λ n. absurd (let b = before_each L M r j n in omega arith)) (Memᴰ.append_cases L m)

  pub chain_front : {e f : Event} → f ∈ L → Chain (L ++ M) e f → Chain L e f
  chain_front j (start m) = start j
  chain_front j (more c m lt k) = more (chain_front (stays (chain_last c) j lt) c) j lt k

  pub chain_front_iff : {e f : Event} → f ∈ L → Chain (L ++ M) e f ↔ Chain L e f
  chain_front_iff j = (chain_front j, chain_within (λ e m. Memᴰ.append_left M m))

pub rising_front : (L M : List Event) → Rising (L ++ M) → Rising L
rising_front [] M r = tt
rising_front (x ∷ L) M r = (after_front x L M r.0, rising_front L M r.1)

-- in a rising list a place is one event's
pub place_once : (L : List Event) → Rising L → {e f : Event} → e ∈ L → f ∈ L → e.place ≡ f.place → e ≡ f
place_once [] r m n p = absurd (Memᴰ.not-nil m)
place_once (x ∷ L) r m n p =
    ⊎_elim
    (λ s. ⊎_elim (λ t. s ∙ sym t) (λ j. absurd (let a = after_each x L r.0 j in omega (arith, same_place s))) (Memᴰ.cases_cons n))
    (λ i. ⊎_elim (λ t. absurd (let a = after_each x L r.0 i in omega (arith, same_place t))) (λ j. place_once L r.1 i j p) (Memᴰ.cases_cons n))
    (Memᴰ.cases_cons m)

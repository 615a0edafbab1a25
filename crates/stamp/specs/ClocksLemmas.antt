-- Clocks keep the laws of stamps, and a clock of what is behind a thread has its entries.
use Rattle.std.specs.Prelude.{◌≡◌, ℕ, zero, suc, ◌+◌, ◌-◌, ◌^◌, ◌<◌, ◌≤◌, min, max, List, [], ◌∷◌, length, replicate, ◌≢◌, slice_index, slice_set, refl}
use Rattle.std.proofs.Common.{sym, subst, ◌∙◌, ⊎_elim, arith, length-set, ext_get_or}
use mathlib.Core.HLevel.{is_prop→PathP}
use mathlib.Core.List.{Memᴰ}
use Rattle.std.proofs.Math.Nat.{ℕ_set}
use Rattle.std.proofs.Math.Seq.{get_or-set_same, get_or-set_other}
use Rattle.std.proofs.lemmas.List.{length-replicate}
use Rattle.std.proofs.lemmas.Bool.{cases_eq}
use Rattle.std.specs.List.{AllByRecursion}
use Rattle.event.specs.declared.counts.Counts.{Counts}
use Rattle.event.specs.declared.record.Event.{Event}
use Rattle.event.specs.Entries.{Reaches, IsEntry}
use Rattle.event.specs.Order.{◌∈◌}
use Rattle.event.specs.Thins.{Placed, Sound}
use Rattle.event.proofs.Members.{every_in}
use Rattle.order.specs.Stamps.{Laws, Deed, deeds, Behind, Bound}
use Rattle.order.proofs.Behind.{behind_iff}
use Rattle.order.proofs.Chaining.{chain_first}
use Rattle.order.proofs.Deeds.{deed, deed_in, deed_of}
use Rattle.order.proofs.Entries.{is_entry}
use Rattle.order.proofs.Joins.{laws_of_bounds}
use Rattle.stamp.specs.declared.clock.Clock.{Clock}
use Rattle.stamp.specs.Clocks.{NoLater, maxes, later, zeros, clock_of, tick, TellsEntry}

-- two clocks with the same entries are one
pub same_clock : (x y : Clock) → x.entries ≡ y.entries → x ≡ y
same_clock x y p = λ i. record { entries = p i; wide = is_prop→PathP (λ j. length (p j) ≡ 16) (λ j. ℕ_set (length (p j)) 16) x.wide y.wide i }

abbrev at : Clock → ℕ → ℕ
at x k = slice_index x.entries k

pub same_entries : (x y : Clock) → ((k : ℕ) → k < 16 → at x k ≡ at y k) → x ≡ y
same_entries x y h = same_clock x y (ext_get_or 0 x.entries y.entries (omega (arith, x.wide, y.wide)) (λ k lt. h k (omega (arith, x.wide))))

get_or_maxes : (xs ys : List ℕ) (k : ℕ) → slice_index (maxes xs ys) k ≡ max (slice_index xs k) (slice_index ys k)
get_or_maxes [] ys k = omega arith
get_or_maxes (x ∷ xs) [] k = omega arith
get_or_maxes (x ∷ xs) (y ∷ ys) zero = refl
get_or_maxes (x ∷ xs) (y ∷ ys) (suc k) = get_or_maxes xs ys k

at_later : (x y : Clock) (k : ℕ) → at (later x y) k ≡ max (at x k) (at y k)
at_later x y k = get_or_maxes x.entries y.entries k

get_or_zeros : (n k : ℕ) → ◌≡◌ {A = ℕ} (slice_index (replicate n 0) k) 0
get_or_zeros zero k = refl
get_or_zeros (suc n) zero = refl
get_or_zeros (suc n) (suc k) = get_or_zeros n k

pub clock_laws : Laws NoLater later zeros
clock_laws =
    laws_of_bounds
    (λ x k. omega arith)
    (λ x y z p q k. omega (arith, p k, q k))
    (λ x y p q. same_entries x y (λ k lt. omega (arith, p k, q k)))
    (λ x y k. omega (arith, at_later x y k))
    (λ x y k. omega (arith, at_later x y k))
    (λ x y z p q k. omega (arith, at_later x y k, p k, q k))
    (λ x k. omega (arith, get_or_zeros 16 k))

-- a clock whose sixteen entries are the larger ones is the join
pub is_later : (r x y : Clock) → ((k : ℕ) → k < 16 → at r k ≡ max (at x k) (at y k)) → r ≡ later x y
is_later r x y h = same_entries r (later x y) (λ k lt. omega (arith, h k lt, at_later x y k))

tick_own : (e : Event) → e.thread < 16 → e.place ≤ 999999 → at (tick e) e.thread ≡ suc e.place
tick_own e lt le = get_or-set_same (replicate 16 0) e.thread (min (e.place + 1) (2 ^ 32 - 1)) 0 (omega (arith, length-replicate {A = ℕ} 16 0)) ∙ omega arith

tick_other : (e : Event) (k : ℕ) → (k ≢ e.thread) → at (tick e) k ≡ 0
tick_other e k ne = get_or-set_other (replicate 16 0) e.thread k (min (e.place + 1) (2 ^ 32 - 1)) 0 ne ∙ get_or_zeros 16 k

pub placed_in : (c : Counts) (L : List Event) → AllByRecursion (Placed c) L → {e : Event} → e ∈ L → Placed c e
placed_in c L h m = every_in (Placed c) L h m

-- The clock bounds each tick behind t, and so its number for u bounds the places of u's events there. It is below each other clock that
-- bounds the ticks: so is the one with another such number for u.
module _ (x : Clock) (c : Counts) (L : List Event) (t u : ℕ) (sound : Sound c L) (declared : u < c.threads) (bound : Bound NoLater (deeds tick L) (λ e. Behind L e t) x) where
  fits : (e : Event) → Reaches L e t → (e.thread < 16) × (e.place ≤ 999999)
  fits e r = let p = placed_in c L sound.placed (chain_first r.chain) in (omega (arith, p.thread, c.limits), p.place)

  upper : (e : Event) → e.thread ≡ u → Reaches L e t → suc e.place ≤ at x u
  upper e s r =
      let h = bound.upper (deed tick e) (deed_in tick L (chain_first r.chain)) ((behind_iff L sound.rising e t).0 r) u in
      let own = tick_own e (fits e r).0 (fits e r).1 ∙ refl in
      omega (arith, h, subst (λ k. at (tick e) k ≡ suc e.place) s own)

  raised : ℕ → Clock
  raised n = clock_of (slice_set x.entries u n) (length-set x.entries u n ∙ x.wide)

  raised_own : (n : ℕ) → at (raised n) u ≡ n
  unfolding raised
  raised_own n = get_or-set_same x.entries u n 0 (omega (arith, x.wide, c.limits))

  raised_other : (n k : ℕ) → (k ≢ u) → at (raised n) k ≡ at x k
  unfolding raised
  raised_other n k ne = get_or-set_other x.entries u k n 0 ne

  least : (n : ℕ) → ((e : Event) → e.thread ≡ u → Reaches L e t → suc e.place ≤ n) → at x u ≤ n
  least n h = omega (arith, bound.least (raised n) under u, raised_own n)
    where
      below_own : (e : Event) → Reaches L e t → (k : ℕ) → k ≡ u → at (tick e) k ≤ at (raised n) k
      below_own e r k s =
          ⊎_elim
          (λ w. omega (arith, h e (w ∙ s) r, subst (λ j. at (tick e) j ≡ suc e.place) w (tick_own e (fits e r).0 (fits e r).1), subst (λ j. at (raised n) j ≡ n) (sym s) (raised_own n)))
          (λ ne. omega (arith, tick_other e k (λ w. ne (sym w))))
          (cases_eq e.thread k)

      under : (y : Deed Clock) → Memᴰ y (deeds tick L) → Behind L y.event t → NoLater y.gives (raised n)
      under y m b k =
          let e = y.event in
          let r = (behind_iff L sound.rising e t).1 b in
          subst (λ (d : Deed Clock). at d.gives k ≤ at (raised n) k) (sym (deed_of tick L y m).0)
          (⊎_elim
          (below_own e r k)
          (λ ne. let up = bound.upper (deed tick e) (deed_in tick L (chain_first r.chain)) b k in omega (arith, raised_other n k ne))
          (cases_eq k u))

  entry_told : IsEntry L t u (at x u)
  entry_told = is_entry L sound.rising t u (at x u) upper least

pub tells_entry : (x : Clock) (u : ℕ) → TellsEntry x u (at x u)
tells_entry x u c L t sound declared bound = entry_told x c L t u sound declared bound

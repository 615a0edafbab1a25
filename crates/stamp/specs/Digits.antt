-- Binary digits of a number: of a union, of a power of two, and how many are 1.
use Rattle.std.specs.Prelude.{◌≡◌, ℕ, zero, suc, ◌+◌, ◌/◌, ◌%◌, ◌^◌, ◌<◌, ◌≤◌, max, Bool, true, false, cond, List, [], ◌∷◌, length, ◌==◌, ◌≢◌, bit_or, refl}
use Rattle.std.proofs.Common.{sym, ap, ◌∙◌, ⊎_elim, mod-lt, div-add-mod', pow-suc, arith}
use mathlib.Core.List.Memᴰ
use mathlib.Core.List.{Memᴰ}
use Rattle.std.proofs.Math.Arith.{bin_ind, digits_mod, half_le}
use Rattle.std.specs.Int.Bits.{or_step}
use Rattle.std.proofs.lemmas.Nat.{or_shr, shl-shr}
use Rattle.std.specs.Int.Count.{ones, ones_in, ones_step}
use borrow.Author.Tests.{eqb-true, eqb-false, eq-eqb}
use Rattle.stamp.specs.Reaching.{digit, Above, Ascending}

mod_two : (n : ℕ) → n % 2 < 2
mod_two n = mod-lt n (omega arith)

by_halves : (a b : ℕ) → a / 2 ≡ b / 2 → a % 2 ≡ b % 2 → a ≡ b
by_halves a b hi lo = omega (arith, div-add-mod' a 2, div-add-mod' b 2)

pub digit_small : (u n : ℕ) → digit u n < 2
digit_small zero n = mod_two n
digit_small (suc u) n = digit_small u (n / 2)

pub digit_zero : (u : ℕ) → digit u 0 ≡ 0
digit_zero zero = refl
digit_zero (suc u) = digit_zero u

or_odd : (a b : ℕ) → bit_or a b % 2 ≡ max (a % 2) (b % 2)
or_odd a b = ap (λ n. n % 2) (or_step a b) ∙ digits_mod (bit_or (a / 2) (b / 2)) (omega (arith, mod_two a, mod_two b))

pub digit_or : (u a b : ℕ) → digit u (bit_or a b) ≡ max (digit u a) (digit u b)
digit_or zero a b = or_odd a b
digit_or (suc u) a b = ap (digit u) (or_shr a b 1) ∙ digit_or u (a / 2) (b / 2)

pow_half : (u : ℕ) → 2 ^ suc u / 2 ≡ 2 ^ u
pow_half u = ap (λ n. n / 2) (pow-suc 2 u) ∙ shl-shr (2 ^ u) 1

pow_even : (u : ℕ) → 2 ^ suc u % 2 ≡ 0
pow_even u = omega (arith, pow-suc 2 u, div-add-mod' (2 ^ suc u) 2, pow_half u)

pub digit_own : (u : ℕ) → digit u (2 ^ u) ≡ 1
digit_own zero = refl
digit_own (suc u) = ap (digit u) (pow_half u) ∙ digit_own u

pub digit_other : (u v : ℕ) → (u ≢ v) → digit v (2 ^ u) ≡ 0
digit_other zero zero ne = absurd (ne refl)
digit_other zero (suc v) ne = digit_zero v
digit_other (suc u) zero ne = pow_even u
digit_other (suc u) (suc v) ne = ap (digit v) (pow_half u) ∙ digit_other u v (λ e. ne (ap suc e))

-- numbers with the same digits are the same
pub by_digits : (a b : ℕ) → ((u : ℕ) → digit u a ≡ digit u b) → a ≡ b
by_digits =
    bin_ind (λ (a : ℕ). (b : ℕ) → ((u : ℕ) → digit u a ≡ digit u b) → a ≡ b)
    (bin_ind (λ (b : ℕ). ((u : ℕ) → digit u 0 ≡ digit u b) → 0 ≡ b) (λ h. refl) (λ b ih h. by_halves 0 b (ih (λ u. h (suc u))) (h 0)))
    (λ a ih b h. by_halves a b (ih (b / 2) (λ u. h (suc u))) (h 0))

-- the places of n's digits that are 1, where the lowest is counted as i and d digits are looked at
pub places_of : ℕ → ℕ → ℕ → List ℕ
places_of zero i n = []
places_of (suc d) i n = cond (n % 2 == 1) (i ∷ places_of d (suc i) (n / 2)) (places_of d (suc i) (n / 2))

none_left : (n : ℕ) → n ≤ 0 → n ≡ 0
none_left n h = omega arith

pub places_many : (d i n : ℕ) → n ≤ d → length (places_of d i n) ≡ ones n
unfolding places_of ones ones_in
places_many zero i n h = sym (ap ones (none_left n h))
places_many (suc d) i n h = go (n % 2 == 1) refl (places_many d (suc i) (n / 2) (half_le h))
  where
    go : (b : Bool) → (n % 2 == 1) ≡ b → length (places_of d (suc i) (n / 2)) ≡ ones (n / 2) → length (cond b (i ∷ places_of d (suc i) (n / 2)) (places_of d (suc i) (n / 2))) ≡ ones n
    go true e k = omega (arith, k, ones_step n, eqb-true _ _ e)
    go false e k = let z : n % 2 ≡ 0 = omega (arith, mod_two n, eqb-false _ _ e) in omega (arith, k, ones_step n)

places_above : (d i n k : ℕ) → k < i → Above k (places_of d i n)
unfolding places_of
places_above zero i n k lt = tt
places_above (suc d) i n k lt = go (n % 2 == 1) (places_above d (suc i) (n / 2) k (omega arith))
  where
    go : (b : Bool) → Above k (places_of d (suc i) (n / 2)) → Above k (cond b (i ∷ places_of d (suc i) (n / 2)) (places_of d (suc i) (n / 2)))
    go true h = (lt, h)
    go false h = h

pub places_once : (d i n : ℕ) → Ascending (places_of d i n)
unfolding places_of
places_once zero i n = tt
places_once (suc d) i n = go (n % 2 == 1) (places_once d (suc i) (n / 2))
  where
    go : (b : Bool) → Ascending (places_of d (suc i) (n / 2)) → Ascending (cond b (i ∷ places_of d (suc i) (n / 2)) (places_of d (suc i) (n / 2)))
    go true h = (places_above d (suc i) (n / 2) i (omega arith), h)
    go false h = h

pub place_digit : (d i n u : ℕ) → Memᴰ u (places_of d i n) → (k : ℕ) × (u ≡ i + k) × (digit k n ≡ 1)
unfolding places_of
place_digit zero i n u m = absurd (Memᴰ.not-nil m)
place_digit (suc d) i n u m = go (n % 2 == 1) refl (place_digit d (suc i) (n / 2) u) m
  where
    on : ((k : ℕ) × (u ≡ suc i + k) × (digit k (n / 2) ≡ 1)) → (k : ℕ) × (u ≡ i + k) × (digit k n ≡ 1)
    on s = (suc s.0, omega (arith, s.1), s.2)

    go : (b : Bool) → (n % 2 == 1) ≡ b → (Memᴰ u (places_of d (suc i) (n / 2)) → (k : ℕ) × (u ≡ suc i + k) × (digit k (n / 2) ≡ 1)) → Memᴰ u (cond b (i ∷ places_of d (suc i) (n / 2)) (places_of d (suc i) (n / 2))) → (k : ℕ) × (u ≡ i + k) × (digit k n ≡ 1)
    go true e rest m = ⊎_elim (λ s. (0, omega arith, eqb-true _ _ e)) (λ r. on (rest r)) (Memᴰ.cases_cons m)
    go false e rest m = on (rest m)

pub digit_place : (d i n k : ℕ) → n ≤ d → digit k n ≡ 1 → Memᴰ (i + k) (places_of d i n)
unfolding places_of
digit_place zero i n k h e = absurd (let z : n ≡ 0 = omega arith in omega (arith, e, ap (digit k) z, digit_zero k))
digit_place (suc d) i n zero h e = go (n % 2 == 1) (eq-eqb _ _ e)
  where
    go : (b : Bool) → b ≡ true → Memᴰ (i + 0) (cond b (i ∷ places_of d (suc i) (n / 2)) (places_of d (suc i) (n / 2)))
    go true p = Memᴰ.head (omega arith)
    go false p = absurd (borrow.Author.Tests.clash p)
digit_place (suc d) i n (suc k) h e = go (n % 2 == 1) (digit_place d (suc i) (n / 2) k (half_le h) e)
  where
    go : (b : Bool) → Memᴰ (suc i + k) (places_of d (suc i) (n / 2)) → Memᴰ (i + suc k) (cond b (i ∷ places_of d (suc i) (n / 2)) (places_of d (suc i) (n / 2)))
    go true m = Memᴰ.tail (Memᴰ.cast (omega arith) m)
    go false m = Memᴰ.cast (omega arith) m

-- The front of a table: its elements, and its last.
use Rattle.std.proofs.Common.{◌≡◌, ℕ, zero, suc, ◌+◌, ◌-◌, ◌<◌, ◌≤◌, ltb, List, [], ◌∷◌, ◌++◌, length, get_or, take, drop, set, Some, None, sym, refl, ap, ◌∙◌, subst, arith}
use native.Mathlib.Numerals.{unary_clauses}
use Rattle.std.specs.List.{slice_get}
use Rattle.std.specs.Option.{MatchOption, IsSomeAnd, option_copied, option_map}
use Rattle.std.specs.Borrow.{Bor}
use Rattle.std.specs.Prelude.{Option}
use Rattle.std.proofs.lemmas.List.{length-take-le, length-set, get_or-take, take_more_set, drop_more, take_rest}
use Rattle.std.proofs.lemmas.Option.{slice_get-get_or, slice_get_past}
use Rattle.event.specs.declared.counts.Counts.{Counts}
use Rattle.event.specs.declared.record.Event.{Event}
use Rattle.event.specs.Intakes.{last_place}
use Rattle.event.specs.Offers.{above_last}
use Rattle.event.specs.Thins.{Sound}
use Rattle.event.proofs.Sounds.{sound_held, sound_tail}

last_at : (L : List Event) → option_map (λ e. e.place) (slice_get L (length L - 1)) ≡ last_place L
last_at [] = refl
last_at (e ∷ []) = refl
last_at (e ∷ f ∷ L) = simp unary_clauses (simp unary_clauses at (last_at (f ∷ L)))

some_read : {P : ℕ → Type 0} {m : ℕ} (r : Option ℕ) → IsSomeAnd r P → ((n : ℕ) → P n → n ≡ m) → r ≡ Some m
some_read (Some n) h b = ap Some (b n h)
some_read None h b = absurd h

-- what is read of the last of a list that is lent is the place of its last event
pub last_lent : (L : List Event) (last : Option (Bor Event)) (r : Option ℕ) {Reads : Bor Event → ℕ → Type 0} → option_copied last ≡ slice_get L (length L - 1) → MatchOption last (r ≡ None) (λ x. IsSomeAnd r (Reads x)) → ((x : Bor Event) (n : ℕ) → Reads x n → n ≡ x.now.place) → r ≡ last_place L
last_lent L last r {Reads} e h b = go last h ∙ ap (option_map (λ e. e.place)) e ∙ last_at L
  where
    go : (o : Option (Bor Event)) → MatchOption o (r ≡ None) (λ x. IsSomeAnd r (Reads x)) → r ≡ option_map (λ e. e.place) (option_copied o)
    go None h = h
    go (Some x) h = some_read r h (b x)

-- a table with one element more in front
module _ {X : Type 0} (xs : List X) (n : ℕ) (x : X) (fits : n ≤ length xs) (room : length (take n xs) < length xs) where
  pub pushed_fits : n + 1 ≤ length (set xs n x)
  pushed_fits = simp length-set (omega (arith, length-take-le n xs fits, room))

  pub pushed : take (n + 1) (set xs n x) ≡ take n xs ++ x ∷ []
  pushed = take_more_set xs n x (omega (arith, length-take-le n xs fits, room))

  pub pushed_at : set xs n x ≡ set xs (length (take n xs)) x
  pushed_at = ap (λ k. set xs k x) (sym (length-take-le n xs fits))

module _ {X : Type 0} (xs : List X) (n : ℕ) (fits : n ≤ length xs) where
  pub nth_front : (i : ℕ) (d : X) → i < n → Some (get_or xs i d) ≡ slice_get (take n xs) i
  nth_front i d h =
      let l : i < length (take n xs) = omega (arith, length-take-le n xs fits) in
      sym (slice_get-get_or (take n xs) i d l ∙ ap Some (get_or-take n xs i d h))

  pub nth_behind : (i : ℕ) → n ≤ i → None ≡ slice_get (take n xs) i
  nth_behind i h = let l : length (take n xs) ≤ i = omega (arith, length-take-le n xs fits) in sym (slice_get_past (take n xs) i l)

-- the last event of a front of n + 1 is the one at n
last_front : (es : List Event) (n : ℕ) (d : Event) (p : ℕ) → n < length es → ltb (get_or es n d).place p ≡ above_last (take (suc n) es) p
last_front [] n d p h = absurd (omega arith)
last_front (e ∷ es) zero d p h = refl
last_front (e ∷ []) (suc n) d p h = absurd (omega arith)
last_front (e ∷ f ∷ es) (suc n) d p h = last_front (f ∷ es) n d p (omega arith)

pub above_front : (es : List Event) (n : ℕ) (d : Event) (p : ℕ) → 0 < n → n ≤ length es → ltb (get_or es (n - 1) d).place p ≡ above_last (take n es) p
above_front es n d p h l =
    let s : suc (n - 1) ≡ n = omega arith in
    last_front es (n - 1) d p (omega arith) ∙ ap (λ k. above_last (take k es) p) s

-- a list that is not empty is its first element and what `[first, rest @ ..]` leaves
pub split_first : {X : Type 0} (xs : List X) (d : X) → 0 < length xs → xs ≡ get_or xs 0 d ∷ take (length xs - 1) (drop 1 xs)
split_first xs d h = drop_more xs 0 d h ∙ ap (λ l. get_or xs 0 d ∷ l) (sym (take_rest xs 1))

pub rest_sound : (c : Counts) (es : List Event) (d : Event) → 0 < length es → ∥ Sound c es ∥₁ → ∥ Sound c (take (length es - 1) (drop 1 es)) ∥₁
rest_sound c es d h s = ∣ sound_tail c (get_or es 0 d) _ (subst (Sound c) (split_first es d h) (sound_held c es s)) ∣₁

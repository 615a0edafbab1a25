-- The events so far, with one more.
use Rattle.std.proofs.Common.{◌≡◌, ℕ, ◌<◌, ◌⊎◌, List, [], ◌∷◌, ◌++◌, length, get_or, set, sym, refl, ap, ◌∙◌, subst, inl, inr, ⊎_elim, get_or-set_other, get_or-set_same}
use mathlib.Core.List.Memᴰ
use native.Mathlib.Decide.{ℕ_discrete}
use Rattle.event.specs.declared.letter.Letter.{Letter}
use Rattle.event.specs.declared.record.Event.{Event}
use Rattle.event.specs.Order.{◌∈◌}
use Rattle.format.specs.Codes.{code_letter}
use Rattle.format.specs.Rules.{Among}

pub one_more : (P : Event → Type 0) (L : List Event) (e : Event) → P e → Among (L ++ e ∷ []) P
one_more P L e p = (e, Memᴰ.append_right L (Memᴰ.head refl), p)

pub still : (P : Event → Type 0) (L : List Event) (e : Event) → Among L P → Among (L ++ e ∷ []) P
still P L e a = (a.0, Memᴰ.append_left (e ∷ []) a.1, a.2)

pub before_or_now : (L : List Event) (e f : Event) → f ∈ L ++ e ∷ [] → (f ∈ L) ⊎ (f ≡ e)
before_or_now L e f m = ⊎_elim inl (λ n. inr (Memᴰ.eq_of_singleton n)) (Memᴰ.append_cases L m)

-- none before and not this one: none now
pub none_yet : (P : Event → Type 0) (L : List Event) (e : Event) → (Among L P → ⊥) → (P e → ⊥) → Among (L ++ e ∷ []) P → ⊥
none_yet P L e n m a = ⊎_elim (λ k. n (a.0, k, a.2)) (λ s. m (subst P s a.2)) (before_or_now L e a.0 a.1)

-- an event has one letter
pub letters_apart : {l m : Letter} (e : Event) → e.letter ≡ l → e.letter ≡ m → code_letter l ≡ code_letter m
letters_apart e p q = ap code_letter (sym p ∙ q)

-- an entry of a table after a write
pub after_set : {A : Type 0} (xs : List A) (i j : ℕ) (a d : A) (P : A → Type 0) → i < length xs → (j ≡ i → P a) → ((j ≡ i → ⊥) → P (get_or xs j d)) → P (get_or (set xs i a) j d)
after_set {A} xs i j a d P lt here there = go (ℕ_discrete j i)
  where
    go : Dec (j ≡ i) → P (get_or (set xs i a) j d)
    go (yes e) = subst P (sym (ap (λ k. get_or (set xs i a) k d) e ∙ get_or-set_same xs i a d lt)) (here e)
    go (no n) = subst P (sym (get_or-set_other xs i j a d n)) (there n)

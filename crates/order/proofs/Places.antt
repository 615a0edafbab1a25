-- Events by index and by membership.
use Rattle.std.proofs.Common.{◌≡◌, ℕ, zero, suc, ◌+◌, ◌-◌, ◌<◌, ◌≤◌, true, leb, ◌⊎◌, List, [], ◌∷◌, ◌++◌, length, get_or, take, drop, sym, refl, ap, ◌∙◌, subst, inl, inr, ⊎_elim, arith, length-drop, get_or-drop, leb-true}
use mathlib.Core.List.Memᴰ
use Rattle.std.proofs.lemmas.Bool.{and_parts}
use Rattle.order.specs.Marks.{rises_from}
use native.Mathlib.Decide.{dec_lt}
use Rattle.std.proofs.lemmas.List.{take-append-drop}
use Rattle.event.specs.declared.letter.Letter.TheVariants.{Read}
use Rattle.event.specs.declared.record.Event.{Event}
use Rattle.event.specs.Order.{◌∈◌}
use Rattle.event.specs.Thins.{After, Rising}
use Rattle.event.proofs.Offering.{after_push}
use Rattle.order.proofs.Front.{same_place, after_each}

pub at_in : (L : List Event) (i : ℕ) (d : Event) → i < length L → get_or L i d ∈ L
at_in [] i d lt = absurd (omega arith)
at_in (x ∷ L) zero d lt = Memᴰ.head refl
at_in (x ∷ L) (suc i) d lt = Memᴰ.tail (at_in L i d (omega arith))

pub in_at : (L : List Event) {e : Event} (d : Event) → e ∈ L → (i : ℕ) × (i < length L) × (get_or L i d ≡ e)
in_at [] d m = absurd (Memᴰ.not-nil m)
in_at (x ∷ L) d m = ⊎_elim (λ s. (0, omega arith, sym s)) (λ n. let h = in_at L d n in (suc h.0, omega (arith, h.1), h.2)) (Memᴰ.cases_cons m)

pub rising_at : (L : List Event) → Rising L → (i j : ℕ) (d : Event) → i < j → j < length L → (get_or L i d).place < (get_or L j d).place
rising_at [] r i j d lt lj = absurd (omega arith)
rising_at (x ∷ L) r i zero d lt lj = absurd (omega arith)
rising_at (x ∷ L) r zero (suc j) d lt lj = after_each x L r.0 (at_in L j d (omega arith))
rising_at (x ∷ L) r (suc i) (suc j) d lt lj = rising_at L r.1 i j d (omega arith) (omega arith)

-- what a read past the end gives
abbrev pub blank : Event
blank = record { place = 0; thread = 0; letter = Read; number = 0; region = 0 }

-- in a rising list an event has one index
pub index_once : (L : List Event) → Rising L → (i j : ℕ) (d : Event) → i < length L → j < length L → get_or L i d ≡ get_or L j d → i ≡ j
index_once L r i j d li lj e =
    elim (dec_lt i j) [
      | yes lt ↦ absurd (let b = rising_at L r i j d lt lj in omega (arith, same_place e))
      | no n ↦ elim (dec_lt j i) [
        | yes lt ↦ absurd (let b = rising_at L r j i d lt li in omega (arith, same_place e))
        | no m ↦ omega arith
      ]
    ]

-- the events from an index on
pub index_drop : (L : List Event) (j k : ℕ) → j < length L → k ≤ j → get_or L j blank ∈ drop k L
index_drop L j k lj ge =
    let i : ℕ = j - k in
    let here : i < length (drop k L) = omega (arith, length-drop k L) in
    let sum : k + i ≡ j = omega arith in
    Memᴰ.cast (sym (get_or-drop k L i blank ∙ ap (λ n. get_or L n blank) sum)) (at_in (drop k L) i blank here)

pub drop_in : (L : List Event) (k : ℕ) {f : Event} → f ∈ drop k L → f ∈ L
drop_in L k {f} m = subst (λ M. f ∈ M) (take-append-drop k L) (Memᴰ.append_right (take k L) m)

pub drop_later : (L : List Event) → Rising L → (i : ℕ) → i < length L → {f : Event} → f ∈ drop (suc i) L → (get_or L i blank).place < f.place
drop_later L r i li m =
    let h = in_at (drop (suc i) L) blank m in
    let lt = rising_at L r i (suc i + h.0) blank (omega arith) (omega (arith, h.1, length-drop (suc i) L)) in
    omega (arith, lt, same_place (sym (get_or-drop (suc i) L h.0 blank) ∙ h.2))

-- an event is not after the one at i, or stands behind it
pub later_drop : (L : List Event) → Rising L → (i : ℕ) → i < length L → {f : Event} → f ∈ L → (f.place ≤ (get_or L i blank).place) ⊎ (f ∈ drop (suc i) L)
later_drop L r i li {f} m =
    let h = in_at L blank m in
    elim (dec_lt i h.0) [
      | yes lt ↦ inr (Memᴰ.cast (sym h.2) (index_drop L h.0 (suc i) h.1 (omega arith)))
      | no n ↦ inl (elim (dec_lt h.0 i) [
        | yes lt ↦ omega (arith, rising_at L r h.0 i blank lt li, same_place h.2)
        | no o ↦ let same : h.0 ≡ i = omega arith in omega (arith, same_place h.2, ap (λ n. (get_or L n blank).place) same)
      ])
    ]

pub rising_push : (L : List Event) (g : Event) → Rising L → ((e : Event) → e ∈ L → e.place < g.place) → Rising (L ++ g ∷ [])
rising_push [] g r h = (tt, tt)
rising_push (x ∷ L) g r h = (after_push x L g r.0 (h x (Memᴰ.head refl)), rising_push L g r.1 (λ e m. h e (Memᴰ.tail m)))

after_of : (x : Event) (L : List Event) → ((e : Event) → e ∈ L → x.place < e.place) → After x L
after_of x [] h = tt
after_of x (y ∷ L) h = (h y (Memᴰ.head refl), after_of x L (λ e m. h e (Memᴰ.tail m)))

pub rises_sound : (p : ℕ) (L : List Event) → rises_from p L ≡ true → Rising L × ((e : Event) → e ∈ L → p ≤ e.place)
rises_sound p [] h = (tt, λ e m. absurd (Memᴰ.not-nil m))
rises_sound p (x ∷ L) h =
    let w = and_parts (leb p x.place) (rises_from (suc x.place) L) h in
    let low : p ≤ x.place = leb-true _ _ w.0 in
    let k = rises_sound (suc x.place) L w.1 in
    ((after_of x L k.1, k.0), λ e m. ⊎_elim (λ s. omega (arith, ap (λ (v : Event). v.place) s)) (λ n. omega (arith, k.1 e n)) (Memᴰ.cases_cons m))

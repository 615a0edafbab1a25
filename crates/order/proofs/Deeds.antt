-- Events, each with what it contributes.
use Rattle.std.proofs.Common.{◌≡◌, List, [], ◌∷◌, ◌++◌, sym, refl, ap, ◌∙◌, ⊎_elim}
use mathlib.Core.List.Memᴰ
use mathlib.Core.List.{Memᴰ}
use Rattle.event.specs.declared.record.Event.{Event}
use Rattle.event.specs.Order.{◌∈◌}
use Rattle.order.specs.Stamps.{Deed, events, deeds}

module _ {S : Type 0} (give : Event → S) where
  abbrev pub deed : Event → Deed S
  deed e = record { event = e; gives = give e }

  pub events_deeds : (L : List Event) → events (deeds give L) ≡ L
  events_deeds [] = refl
  events_deeds (e ∷ L) = ap (λ M. e ∷ M) (events_deeds L)

  pub deeds_push : (L : List Event) (e : Event) → deeds give (L ++ e ∷ []) ≡ deeds give L ++ deed e ∷ []
  deeds_push [] e = refl
  deeds_push (x ∷ L) e = ap (λ M. deed x ∷ M) (deeds_push L e)

  pub deed_in : (L : List Event) {e : Event} → e ∈ L → Memᴰ (deed e) (deeds give L)
  deed_in [] m = absurd (Memᴰ.not-nil m)
  deed_in (x ∷ L) m = ⊎_elim (λ s. Memᴰ.head (ap deed s)) (λ n. Memᴰ.tail (deed_in L n)) (Memᴰ.cases_cons m)

  pub deed_of : (L : List Event) (y : Deed S) → Memᴰ y (deeds give L) → (y ≡ deed y.event) × (y.event ∈ L)
  deed_of [] y m = absurd (Memᴰ.not-nil m)
  deed_of (x ∷ L) y m =
      ⊎_elim
      (λ s. let e : y.event ≡ x = ap (λ (d : Deed S). d.event) s in (s ∙ ap deed (sym e), Memᴰ.head e))
      (λ n. let h = deed_of L y n in (h.0, Memᴰ.tail h.1))
      (Memᴰ.cases_cons m)

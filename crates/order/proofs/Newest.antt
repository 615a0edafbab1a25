-- One more event at the end of a rising list.
use Rattle.std.proofs.Common.{◌≡◌, ◌<◌, ◌⊎◌, List, [], ◌∷◌, ◌++◌, refl, subst, inl, inr, ⊎_elim, arith}
use mathlib.Core.List.Memᴰ
use Rattle.event.specs.declared.record.Event.{Event}
use Rattle.event.specs.Order.{◌∈◌, Linked, Chain, start, more}
use Rattle.event.specs.Thins.{Rising}
use Rattle.order.proofs.Chaining.{chain_last, chain_within}
use Rattle.order.proofs.Front.{same_place, before_each, chain_front}

-- a chain to the new event g: from g itself, or from an older event, by a last step to g
pub data Comes (L : List Event) (g e : Event) : Type 0 where
  itself : e ≡ g → Comes L g e
  by_step : {f : Event} → Chain L e f → Linked f g → Comes L g e

pub newest_in : (L : List Event) (g : Event) → g ∈ L ++ g ∷ []
newest_in L g = Memᴰ.append_right L (Memᴰ.head refl)

pub old_or_new : (L : List Event) {g f : Event} → f ∈ L ++ g ∷ [] → (f ∈ L) ⊎ (f ≡ g)
old_or_new L m = ⊎_elim inl (λ n. inr (Memᴰ.eq_of_singleton n)) (Memᴰ.append_cases L m)

pub chain_on : {L : List Event} {e f : Event} (g : Event) → Chain L e f → Chain (L ++ g ∷ []) e f
chain_on g c = chain_within (λ e m. Memᴰ.append_left (g ∷ []) m) c

module _ (L : List Event) (g : Event) (r : Rising (L ++ g ∷ [])) where
  pub older : {f : Event} → f ∈ L → f.place < g.place
  older m = before_each L (g ∷ []) r m (Memᴰ.head refl)

  pub not_old : g ∈ L → ⊥
  not_old m = let lt = older m in omega arith

  pub chain_old : {e f : Event} → f ∈ L → Chain (L ++ g ∷ []) e f → Chain L e f
  chain_old j c = chain_front L (g ∷ []) r j c

  pub step_to_new : {e f : Event} → Chain L e f → Linked f g → Chain (L ++ g ∷ []) e g
  step_to_new c k = more (chain_on g c) (newest_in L g) (older (chain_last c)) k

  pub comes : {e f : Event} → f ≡ g → Chain (L ++ g ∷ []) e f → Comes L g e
  comes s (start m) = itself s
  comes s (more {f} c m lt k) =
      ⊎_elim
      (λ i. by_step (chain_old i c) (subst (Linked f) s k))
      (λ p. absurd (omega (arith, same_place p, same_place s)))
      (old_or_new L (chain_last c))

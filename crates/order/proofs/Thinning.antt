-- Leaving accesses out keeps chains and races.
use Rattle.std.proofs.Common.{◌≡◌, ◌<◌, ◌⊎◌, List, [], ◌∷◌, sym, ◌∙◌, subst, inl, inr, ⊎_elim, arith}
use mathlib.Core.List.Memᴰ
use Rattle.event.specs.declared.record.Event.{Event}
use Rattle.event.specs.Order.{◌∈◌, Within, Linked, by_thread, Chain, start, more, Access}
use Rattle.event.specs.Thins.{Thins, none, keep, drop}
use Rattle.order.specs.Theorems.{Thinned}
use Rattle.order.proofs.Chaining.{from_access, to_access, chain_within}

pub thins_within : {W P : List Event} → Thins W P → Within P W
thins_within none e m = m
thins_within (keep t) e m = ⊎_elim (λ s. Memᴰ.head s) (λ n. Memᴰ.tail (thins_within t e n)) (Memᴰ.cases_cons m)
thins_within (drop a t) e m = Memᴰ.tail (thins_within t e m)

pub thins_self : (W : List Event) → Thins W W
thins_self [] = none
thins_self (e ∷ W) = keep (thins_self W)

pub thins_through : {W P Q : List Event} → Thins W P → Thins P Q → Thins W Q
thins_through none t = t
thins_through (keep s) (keep t) = keep (thins_through s t)
thins_through (keep s) (drop a t) = drop a (thins_through s t)
thins_through (drop a s) t = drop a (thins_through s t)

access_cast : {e f : Event} → e ≡ f → Access f → Access e
access_cast s a = subst Access (sym s) a

pub thins_kept : {W P : List Event} → Thins W P → (e : Event) → e ∈ W → (e ∈ P) ⊎ Access e
thins_kept none e m = inl m
thins_kept (keep t) e m = ⊎_elim (λ s. inl (Memᴰ.head s)) (λ n. ⊎_elim (λ k. inl (Memᴰ.tail k)) inr (thins_kept t e n)) (Memᴰ.cases_cons m)
thins_kept (drop a t) e m = ⊎_elim (λ s. inr (access_cast s a)) (λ n. thins_kept t e n) (Memᴰ.cases_cons m)

-- where a chain of W stands in P: at its last event, or, where that is an access, perhaps at an earlier event of the same thread
data Stands (P : List Event) (e f : Event) : Type 0 where
  at : Chain P e f → Stands P e f
  behind : {x : Event} → Chain P e x → x.place < f.place → x.thread ≡ f.thread → Access f → Stands P e f

module _ {W P : List Event} (t : Thins W P) where
  onward : {e f g : Event} → Stands P e f → g ∈ W → f.place < g.place → Linked f g → Stands P e g
  onward {e} {f} {g} (at c) m lt k = ⊎_elim (λ i. at (more c i lt k)) (λ a. behind c lt (to_access a k) a) (thins_kept t g m)
  onward {e} {f} {g} (behind {x} c b s a) m lt k =
      let same = s ∙ from_access a k in
      let on : x.place < g.place = omega arith in
      ⊎_elim (λ i. at (more c i on (by_thread same))) (λ a'. behind c on same a') (thins_kept t g m)

  stands : {e f : Event} → e ∈ P → Chain W e f → Stands P e f
  stands i (start m) = at (start i)
  stands i (more c m lt k) = onward (stands i c) m lt k

  arrives : {e f : Event} → f ∈ P → Stands P e f → Chain P e f
  arrives j (at c) = c
  arrives j (behind c lt s a) = more c j lt (by_thread s)

  pub chain_thinned : {e f : Event} → e ∈ P → f ∈ P → Chain W e f → Chain P e f
  chain_thinned i j c = arrives j (stands i c)

  pub chain_thickened : {e f : Event} → Chain P e f → Chain W e f
  chain_thickened c = chain_within (thins_within t) c

pub thinned : (W P : List Event) → Thins W P → (e f : Event) → e ∈ P → f ∈ P → Thinned W P e f
thinned W P t e f i j = record {
  chains = (chain_thinned t i j, chain_thickened t);
  races = (
    λ r. record { first_in = i; second_in = j; order = r.order; conflict = r.conflict; unordered = λ c. r.unordered (chain_thickened t c) },
    λ r. record { first_in = thins_within t e i; second_in = thins_within t f j; order = r.order; conflict = r.conflict; unordered = λ c. r.unordered (chain_thinned t i j c) },
  );
}

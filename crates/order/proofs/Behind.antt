-- To reach a thread is to reach its latest event.
use Rattle.std.proofs.Common.{◌≡◌, ℕ, ◌<◌, ◌≤◌, ◌⊎◌, ◌↔◌, List, [], ◌∷◌, ◌++◌, sym, refl, ◌∙◌, subst, inl, inr, ⊎_elim, arith}
use mathlib.Core.List.Memᴰ
use native.Mathlib.Decide.{ℕ_discrete, dec_lt}
use Rattle.event.specs.declared.record.Event.{Event}
use Rattle.event.specs.Entries.{LatestOf, Reaches}
use Rattle.event.specs.Order.{◌∈◌, Chain, more, by_thread}
use Rattle.event.specs.Thins.{Rising}
use Rattle.order.specs.Stamps.{Deed, Behind, Bound}
use Rattle.order.proofs.Chaining.{chain_last}
use Rattle.order.proofs.Finding.{latest}
use Rattle.order.proofs.Front.{place_once, same_place}
use Rattle.order.proofs.Newest.{newest_in, old_or_new, older}

pub reaches_latest : (L : List Event) → Rising L → (t : ℕ) (l : Event) → LatestOf L t l → (e : Event) → Reaches L e t ↔ Chain L e l
reaches_latest L r t l h e = (
  λ c. ⊎_elim
      (λ s. subst (Chain L e) (place_once L r (chain_last c.chain) h.«in» s) c.chain)
      (λ lt. more c.chain h.«in» lt (by_thread (c.of ∙ sym h.of)))
      (split c.to.place l.place (h.last c.to (chain_last c.chain) c.of)),
  λ c. record { to = l; of = h.of; chain = c },
)
  where
    split : (a b : ℕ) → a ≤ b → (a ≡ b) ⊎ (a < b)
    split a b q = elim (dec_lt a b) [ yes lt ↦ inr lt | no n ↦ inl (omega arith) ]

-- the newest event is its thread's latest
pub newest_latest : (L : List Event) (g : Event) → Rising (L ++ g ∷ []) → LatestOf (L ++ g ∷ []) g.thread g
newest_latest L g r = record {
  «in» = newest_in L g;
  of = refl;
  last = λ f m s. ⊎_elim (λ i. let lt = older L g r i in omega arith) (λ e. omega (arith, same_place e)) (old_or_new L m);
}

-- a thread that has an event has a latest one
pub latest_there : (L : List Event) (t : ℕ) (e : Event) → e ∈ L → e.thread ≡ t → (l : Event) × LatestOf L t l
latest_there L t e m s =
    let found = latest (λ (x : Event). x.thread ≡ t) (λ x. ℕ_discrete x.thread t) L e s in (
      found.0,
      record {
        «in» = ⊎_elim (λ p. Memᴰ.cast p m) (λ h. h.0) found.1.from;
        of = found.1.held;
        last = found.1.last;
      },
    )

pub behind_iff : (L : List Event) → Rising L → (e : Event) (t : ℕ) → Reaches L e t ↔ Behind L e t
behind_iff L r e t = (
  λ c. let l = latest_there L t c.to (chain_last c.chain) c.of in
      record { latest = l.0; is_latest = l.1; chain = (reaches_latest L r t l.0 l.1 e).0 c },
  λ b. record { to = b.latest; of = b.is_latest.of; chain = b.chain },
)

-- a bound of the deeds that one test counts is a bound of those that an equal test counts
pub bound_iff : {S : Type 0} {below : S → S → Type 0} {xs : List (Deed S)} {P Q : Event → Type 0} {s : S} → ((e : Event) → P e ↔ Q e) → Bound below xs P s → Bound below xs Q s
bound_iff same b = record {
  upper = λ x m q. b.upper x m ((same x.event).1 q);
  least = λ z k. b.least z (λ x m p. k x m ((same x.event).0 p));
}

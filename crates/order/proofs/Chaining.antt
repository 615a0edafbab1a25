-- Chains of a list of events.
use Rattle.std.proofs.Common.{◌≡◌, ℕ, ◌<◌, ◌⊎◌, List, sym, refl, ap, subst, inl, inr, ⊎_elim, arith}
use Rattle.event.specs.declared.object.Object.{Object}
use Rattle.event.specs.declared.record.Event.{Event}
use Rattle.event.specs.Objects.{released_by, acquired_by}
use Rattle.event.specs.Order.{◌∈◌, Within, Releases, Acquires, Linked, by_thread, by_object, Chain, start, more, Access, reads, writes}

-- an access releases and acquires nothing
pub releases_none : {e : Event} {o : Object} → Access e → Releases e o → ⊥
releases_none {e} (reads r) h = let z : ◌≡◌ {A = ℕ} 0 1 = cc (ap (λ l. released_by l e.thread e.number) r) in omega arith
releases_none {e} (writes r) h = let z : ◌≡◌ {A = ℕ} 0 1 = cc (ap (λ l. released_by l e.thread e.number) r) in omega arith

pub acquires_none : {e : Event} {o : Object} → Access e → Acquires e o → ⊥
acquires_none {e} (reads r) h = let z : ◌≡◌ {A = ℕ} 0 1 = cc (ap (λ l. acquired_by l e.thread e.number) r) in omega arith
acquires_none {e} (writes r) h = let z : ◌≡◌ {A = ℕ} 0 1 = cc (ap (λ l. acquired_by l e.thread e.number) r) in omega arith

-- a step from or to an access stays in its thread
pub from_access : {e f : Event} → Access e → Linked e f → e.thread ≡ f.thread
from_access a (by_thread t) = t
from_access a (by_object o r q) = absurd (releases_none a r)

pub to_access : {e f : Event} → Access f → Linked e f → e.thread ≡ f.thread
to_access a (by_thread t) = t
to_access a (by_object o r q) = absurd (acquires_none a q)

pub chain_first : {L : List Event} {e f : Event} → Chain L e f → e ∈ L
chain_first (start m) = m
chain_first (more c m lt k) = chain_first c

pub chain_last : {L : List Event} {e f : Event} → Chain L e f → f ∈ L
chain_last (start m) = m
chain_last (more c m lt k) = m

pub chain_within : {L M : List Event} {e f : Event} → Within L M → Chain L e f → Chain M e f
chain_within w (start m) = start (w _ m)
chain_within w (more c m lt k) = more (chain_within w c) (w _ m) lt k

pub chain_join : {L : List Event} {e f g : Event} → Chain L e f → Chain L f g → Chain L e g
chain_join b (start m) = b
chain_join b (more c m lt k) = more (chain_join b c) m lt k

-- a chain goes forward
pub chain_rises : {L : List Event} {e f : Event} → Chain L e f → (e ≡ f) ⊎ (e.place < f.place)
chain_rises (start m) = inl refl
chain_rises {L} {e} (more {f} {g} c m lt k) = inr (⊎_elim (λ s. omega (arith, ap (λ (v : Event). v.place) s)) (λ h. omega arith) (chain_rises c))

-- a chain is of no step, or has a first one
pub chain_uncons : {L : List Event} {e g : Event} → Chain L e g → (e ≡ g) ⊎ ((f : Event) × (f ∈ L) × (e.place < f.place) × Linked e f × Chain L f g)
chain_uncons (start m) = inl refl
chain_uncons {L} {e} (more {f} {g} c m lt k) =
    inr (⊎_elim
    (λ s. (g, m, omega (arith, ap (λ (v : Event). v.place) s), subst (λ v. Linked v g) (sym s) k, start m))
    (λ h. (h.0, h.1, h.2, h.3, more h.4 m lt k))
    (chain_uncons c))

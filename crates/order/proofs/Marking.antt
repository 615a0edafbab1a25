-- The events that `marked` gives are those to which a chain leads.
use Rattle.std.proofs.Common.{◌≡◌, ℕ, Bool, true, false, cond, ◌||◌, eqb, ◌↔◌, List, [], ◌∷◌, ◌++◌, Some, None, Option, sym, refl, ap, ◌∙◌, subst, ⊎_elim, append_assoc, append-nil, eq-eqb, eqb-true}
use mathlib.Core.List.Memᴰ
use borrow.Author.Tests.{both_ways, clash}
use Rattle.event.specs.declared.object.Object.{Object}
use Rattle.event.specs.declared.record.Event.{Event}
use Rattle.event.specs.Objects.{released, acquired}
use Rattle.event.specs.Order.{◌∈◌, Linked, by_thread, by_object, Chain, start}
use Rattle.event.specs.Thins.{Rising}
use Rattle.event.specs.Entries.{Reaches}
use Rattle.order.specs.Marks.{passes, links, one_links, marked, has_place, chained, has_thread, reaches}
use Rattle.order.proofs.Chaining.{chain_first, chain_last}
use Rattle.order.proofs.Front.{same_place, rising_front, place_once}
use Rattle.order.proofs.Newest.{Comes, itself, by_step, newest_in, old_or_new, chain_on, chain_old, step_to_new, comes}
use Rattle.order.proofs.Objects.{same_object_true, same_object_eq}
use Rattle.std.proofs.lemmas.Bool.{or_cases, or_left, or_right}

passes_some : (a b : Option Object) → passes a b ≡ true → (o : Object) × (a ≡ Some o) × (b ≡ Some o)
passes_some None b h = absurd (clash h)
passes_some (Some o) None h = absurd (clash h)
passes_some (Some o) (Some p) h = (o, refl, ap Some (sym (same_object_true o p h)))

passes_same : (o : Object) → passes (Some o) (Some o) ≡ true
passes_same o = same_object_eq o o refl

pub links_linked : (e f : Event) → links e f ≡ true → Linked e f
links_linked e f h =
    ⊎_elim (λ p. by_thread (eqb-true _ _ p)) (λ p. let s = passes_some _ _ p in by_object s.0 s.1 s.2) (or_cases (eqb e.thread f.thread) (passes (released e) (acquired f)) h)

pub linked_links : {e f : Event} → Linked e f → links e f ≡ true
linked_links {e} {f} (by_thread t) = or_left (eqb e.thread f.thread) _ (eq-eqb _ _ t)
linked_links {e} {f} (by_object o r a) = or_right (eqb e.thread f.thread) (passes (released e) (acquired f)) (rw (r, a) (passes_same o))

one_from : (M : List Event) (g : Event) → one_links M g ≡ true → (m : Event) × (m ∈ M) × Linked m g
one_from [] g h = absurd (clash h)
one_from (x ∷ M) g h =
    ⊎_elim (λ p. (x, Memᴰ.head refl, links_linked x g p)) (λ p. let s = one_from M g p in (s.0, Memᴰ.tail s.1, s.2)) (or_cases (links x g) (one_links M g) h)

one_to : (M : List Event) {m g : Event} → m ∈ M → Linked m g → one_links M g ≡ true
one_to [] i k = absurd (Memᴰ.not-nil i)
one_to (x ∷ M) {m} {g} i k =
    ⊎_elim (λ s. or_left (links x g) (one_links M g) (linked_links (subst (λ v. Linked v g) s k))) (λ j. or_right (links x g) (one_links M g) (one_to M j k)) (Memᴰ.cases_cons i)

module _ (e : Event) where
  -- M has the events of D to which a chain leads from e
  abbrev Marks : List Event → List Event → Type 0
  Marks M D = (f : Event) → (f ∈ M) ↔ Chain D e f

  module _ (M D : List Event) (h : Marks M D) (g : Event) (r : Rising (D ++ g ∷ [])) (once : e.place ≡ g.place → e ≡ g) where
    tested : Comes D g e → (eqb e.place g.place || one_links M g) ≡ true
    tested (itself s) = or_left _ (one_links M g) (eq-eqb _ _ (same_place s))
    tested (by_step {f} c k) = or_right (eqb e.place g.place) (one_links M g) (one_to M ((h f).1 c) k)

    reached : (eqb e.place g.place || one_links M g) ≡ true → Chain (D ++ g ∷ []) e g
    reached t =
        ⊎_elim
        (λ p. subst (λ v. Chain (D ++ g ∷ []) v g) (sym (once (eqb-true _ _ p))) (start (newest_in D g)))
        (λ p. let s = one_from M g p in step_to_new D g r ((h s.0).0 s.1) s.2)
        (or_cases (eqb e.place g.place) (one_links M g) t)

    mark : (b : Bool) → (eqb e.place g.place || one_links M g) ≡ b → Marks (cond b (g ∷ M) M) (D ++ g ∷ [])
    mark true t f = (
      λ i. ⊎_elim (λ s. subst (Chain (D ++ g ∷ []) e) (sym s) (reached t)) (λ j. chain_on g ((h f).0 j)) (Memᴰ.cases_cons i),
      λ c. ⊎_elim (λ i. Memᴰ.tail ((h f).1 (chain_old D g r i c))) (λ s. Memᴰ.head s) (old_or_new D (chain_last c)),
    )
    mark false t f = (
      λ i. chain_on g ((h f).0 i),
      λ c. ⊎_elim (λ i. (h f).1 (chain_old D g r i c)) (λ s. absurd (both_ways _ t (tested (comes D g r s c)))) (old_or_new D (chain_last c)),
    )

  marks_on : (L M D : List Event) → Marks M D → Rising (D ++ L) → ((g : Event) → g ∈ L → e.place ≡ g.place → e ≡ g) → Marks (marked e.place M L) (D ++ L)
  marks_on [] M D h r once = subst (λ v. Marks M v) (sym (append-nil D)) h
  marks_on (g ∷ L) M D h r once =
      let r' : Rising ((D ++ g ∷ []) ++ L) = subst Rising (sym (append_assoc D (g ∷ []) L)) r in
      subst (λ v. Marks (marked e.place M (g ∷ L)) v) (append_assoc D (g ∷ []) L)
      (marks_on L _ (D ++ g ∷ []) (mark M D h g (rising_front (D ++ g ∷ []) L r') (once g (Memᴰ.head refl)) _ refl) r' (λ k m. once k (Memᴰ.tail m)))

  pub marks_all : (L : List Event) → Rising L → e ∈ L → Marks (marked e.place [] L) L
  marks_all L r i =
      marks_on L [] [] (λ f. (λ m. absurd (Memᴰ.not-nil m), λ c. absurd (Memᴰ.not-nil (chain_first c)))) r (λ g m. place_once L r i m)

has_place_at : (M : List Event) (p : ℕ) → has_place p M ≡ true → (m : Event) × (m ∈ M) × (p ≡ m.place)
has_place_at [] p h = absurd (clash h)
has_place_at (x ∷ M) p h =
    ⊎_elim (λ t. (x, Memᴰ.head refl, eqb-true _ _ t)) (λ t. let s = has_place_at M p t in (s.0, Memᴰ.tail s.1, s.2)) (or_cases (eqb p x.place) (has_place p M) h)

has_place_of : (M : List Event) {m : Event} → m ∈ M → has_place m.place M ≡ true
has_place_of [] i = absurd (Memᴰ.not-nil i)
has_place_of (x ∷ M) {m} i =
    ⊎_elim (λ s. or_left _ (has_place m.place M) (eq-eqb _ _ (same_place s))) (λ j. or_right (eqb m.place x.place) (has_place m.place M) (has_place_of M j)) (Memᴰ.cases_cons i)

pub chained_iff : (L : List Event) → Rising L → (e f : Event) → e ∈ L → f ∈ L → (chained L e.place f.place ≡ true) ↔ Chain L e f
chained_iff L r e f i j = (
  λ h. let s = has_place_at (marked e.place [] L) f.place h in
      let c = (marks_all e L r i s.0).0 s.1 in
      subst (Chain L e) (sym (place_once L r j (chain_last c) s.2)) c,
  λ c. has_place_of (marked e.place [] L) ((marks_all e L r i f).1 c),
)

has_thread_at : (M : List Event) (t : ℕ) → has_thread t M ≡ true → (m : Event) × (m ∈ M) × (m.thread ≡ t)
has_thread_at [] t h = absurd (clash h)
has_thread_at (x ∷ M) t h =
    ⊎_elim (λ p. (x, Memᴰ.head refl, eqb-true _ _ p)) (λ p. let s = has_thread_at M t p in (s.0, Memᴰ.tail s.1, s.2)) (or_cases (eqb x.thread t) (has_thread t M) h)

has_thread_of : (M : List Event) {m : Event} (t : ℕ) → m ∈ M → m.thread ≡ t → has_thread t M ≡ true
has_thread_of [] t i e = absurd (Memᴰ.not-nil i)
has_thread_of (x ∷ M) {m} t i e =
    ⊎_elim
    (λ s. or_left _ (has_thread t M) (eq-eqb _ _ (ap (λ (v : Event). v.thread) (sym s) ∙ e)))
    (λ j. or_right (eqb x.thread t) (has_thread t M) (has_thread_of M t j e))
    (Memᴰ.cases_cons i)

pub reaches_iff : (L : List Event) → Rising L → (e : Event) → e ∈ L → (t : ℕ) → (reaches L e.place t ≡ true) ↔ Reaches L e t
reaches_iff L r e i t = (
  λ h. let s = has_thread_at (marked e.place [] L) t h in record { to = s.0; of = s.2; chain = (marks_all e L r i s.0).0 s.1 },
  λ c. has_thread_of (marked e.place [] L) t ((marks_all e L r i c.to).1 c.chain) c.of,
)

-- A moment that the regions of two accesses share leaves no chain between them.
use Rattle.std.proofs.Common.{◌≡◌, ℕ, ◌<◌, ◌⊎◌, List, take, drop, sym, refl, ◌∙◌, subst, inl, inr, ⊎_elim, arith}
use Rattle.std.proofs.lemmas.List.{take-append-drop}
use Rattle.event.specs.declared.object.Object.{Object}
use Rattle.event.specs.declared.record.Event.{Event}
use Rattle.event.specs.Order.{◌∈◌, Releases, Acquires, Linked, by_thread, by_object, Chain, start, more, Access, Conflict, Race}
use Rattle.event.specs.Thins.{Rising}
use Rattle.order.specs.Regions.{Region}
use Rattle.order.proofs.Chaining.{releases_none, acquires_none, chain_last}
use Rattle.order.proofs.Front.{same_place, before_each}

-- f is e, or comes after it
abbrev From : Event → Event → Type 0
From e f = (e ≡ f) ⊎ (e.place < f.place)

-- a chain from p to f has stayed in p's thread, or has left it by a release after p and come to f's thread by a later acquire
data Way (L : List Event) (p f : Event) : Type 0 where
  inside : p.thread ≡ f.thread → From p f → Way L p f
  across : {r a : Event} (o s : Object) → r ∈ L → p.thread ≡ r.thread → Releases r o → p.place < r.place →
      r.place < a.place → a ∈ L → Acquires a s → a.thread ≡ f.thread → From a f → Way L p f

later : {e f g : Event} → From e f → f.place < g.place → From e g
later w lt = inr (⊎_elim (λ s. omega (arith, same_place s)) (λ h. omega arith) w)

left : {p f : Event} {o : Object} → Access p → From p f → Releases f o → p.place < f.place
left {p} {f} {o} access (inl s) q = absurd (releases_none access (subst (λ v. Releases v o) (sym s) q))
left access (inr lt) q = lt

module _ {L : List Event} {p : Event} (access : Access p) where
  go_on : {f g : Event} → Way L p f → f ∈ L → g ∈ L → f.place < g.place → Linked f g → Way L p g
  go_on (inside t w) n m lt (by_thread u) = inside (t ∙ u) (later w lt)
  go_on (inside t w) n m lt (by_object o q h) = across o o n t q (left access w q) lt m h refl (inl refl)
  go_on (across o s i t q b c j h u w) n m lt (by_thread v) = across o s i t q b c j h (u ∙ v) (later w lt)
  go_on {f} {g} (across {r} {a} o s i t q b c j h u w) n m lt (by_object d e k) =
      let far : r.place < g.place = ⊎_elim (λ z. omega (arith, same_place z)) (λ z. omega arith) w in
      across o d i t q b far m k refl (inl refl)

  way : {f : Event} → Chain L p f → Way L p f
  way (start m) = inside refl (inl refl)
  way (more c m lt k) = go_on (way c) (chain_last c) m lt k

came : {a q : Event} {s : Object} → Access q → Acquires a s → From a q → a.place < q.place
came {a} {q} {s} access h (inl e) = absurd (acquires_none access (subst (λ v. Acquires v s) e h))
came access h (inr lt) = lt

-- what has passed at a moment stands before what has not
parted : (L : List Event) {a r : Event} (k : ℕ) → Rising L → a ∈ take k L → r ∈ drop k L → a.place < r.place
parted L k up i j = before_each (take k L) (drop k L) (subst Rising (sym (take-append-drop k L)) up) i j

-- At a shared moment the release by which the chain left p's thread has not passed, and the later acquire by which it came to q's has.
blocked : {p q : Event} (L : List Event) (k : ℕ) → Rising L → Access q → (p.thread ≡ q.thread → ⊥) → Region L p k → Region L q k → Way L p q → ⊥
blocked L k up access apart rp rq (inside t w) = apart t
blocked L k up access apart rp rq (across {r} {a} o s i t f b c j h u w) =
    let early = parted L k up (rq.opened a s j u h (came access h w)) (rp.closed r o i (sym t) f b) in
    omega arith

pub shared_moment : (L : List Event) → Rising L → (p q : Event) (k : ℕ) → p ∈ L → q ∈ L → p.place < q.place → Conflict p q → Region L p k → Region L q k → Race L p q
shared_moment L up p q k i j lt c rp rq =
    record { first_in = i; second_in = j; order = lt; conflict = c; unordered = λ d. blocked L k up c.second c.apart rp rq (way c.first d) }

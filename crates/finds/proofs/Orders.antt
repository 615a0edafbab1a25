-- The list of findings is in order.
use Rattle.std.proofs.Common.{◌≡◌, ℕ, zero, suc, Bool, true, false, cond, eqb, ltb, List, [], ◌∷◌, ◌++◌, Some, None, Option, sym, refl, ◌∙◌, subst, ⊎_elim, arith}
use mathlib.Core.List.Memᴰ
use mathlib.Core.List.{Memᴰ}
use Rattle.event.specs.declared.record.Event.{Event}
use Rattle.event.specs.Order.{◌∈◌}
use Rattle.event.specs.Thins.{access, Rising}
use Rattle.order.specs.Runs.{Two, Sooner, by_later, by_thread, by_letter, BeforeAll, InOrder}
use Rattle.order.proofs.Front.{same_place, before_each, rising_front}
use Rattle.order.proofs.Newest.{newest_in}
use Rattle.std.proofs.lemmas.List.{append_assoc}
use Rattle.finds.specs.Latest.{is_write_letter, is_read, latest}
use Rattle.finds.specs.Found.{unless_known, against, against_one, against_below, found_at, found_after}
use Rattle.finds.proofs.Latests.{write_is, read_is, looked_up}
use Rattle.finds.proofs.Rivals.{Unknown, Rival, known_of, unless_has, thread_has, below_has, at_has}

before_append : (a : Two) (fs gs : List Two) → BeforeAll a fs → ((b : Two) → Memᴰ b gs → Sooner a b) → BeforeAll a (fs ++ gs)
before_append a [] [] h k = tt
before_append a [] (b ∷ gs) h k = (k b (Memᴰ.head refl), before_append a [] gs tt (λ c m. k c (Memᴰ.tail m)))
before_append a (b ∷ fs) gs h k = (h.0, before_append a fs gs h.1 k)

-- two lists in order, of which each of the first comes before each of the second
pub order_append : (fs gs : List Two) → InOrder fs → InOrder gs → ((a b : Two) → Memᴰ a fs → Memᴰ b gs → Sooner a b) → InOrder (fs ++ gs)
order_append [] gs o p k = p
order_append (a ∷ fs) gs o p k = (before_append a fs gs o.0 (λ b m. k a b (Memᴰ.head refl) m), order_append fs gs o.1 p (λ c b m n. k c b (Memᴰ.tail m) n))

order_unless : (known : ℕ) (j : Event) (o : Option Event) → InOrder (unless_known known j o)
order_unless known j None = tt
order_unless known j (Some i) = go (ltb i.place known)
  where
    go : (b : Bool) → InOrder (cond b [] ((i, j) ∷ []))
    go true = tt
    go false = (tt, tt)

module _ (T : List Event) (r : Rising T) (j : Event) where
  order_thread : (known u : ℕ) → InOrder (against_one known T j u)
  order_thread known u = go (eqb u j.thread)
    where
      rest : (b : Bool) → InOrder (cond b (unless_known known j (latest is_read u j.number T)) [])
      rest true = order_unless known j (latest is_read u j.number T)
      rest false = tt

      in_rest : (b : Bool) (p : Two) → Memᴰ p (cond b (unless_known known j (latest is_read u j.number T)) []) → Unknown known j (latest is_read u j.number T) p
      in_rest true p m = (unless_has known j _ p).0 m
      in_rest false p m = absurd (Memᴰ.not-nil m)

      sooner : (a b : Two) → Unknown known j (latest is_write_letter u j.number T) a → Unknown known j (latest is_read u j.number T) b → Sooner a b
      sooner a b x y =
          let s = (looked_up is_write_letter u j.number T r a.0 x.access).1 in
          let t = (looked_up is_read u j.number T r b.0 y.access).1 in
          by_letter (x.later ∙ sym y.later) (s.thread ∙ sym t.thread) (write_is _ s.letter) (read_is _ t.letter)

      go : (b : Bool) → InOrder (cond b [] (against known j (latest is_write_letter u j.number T) (latest is_read u j.number T)))
      go true = tt
      go false =
          order_append (unless_known known j (latest is_write_letter u j.number T)) _ (order_unless known j _) (rest (is_write_letter j.letter))
          (λ a b m n. sooner a b ((unless_has known j _ a).0 m) (in_rest (is_write_letter j.letter) b n))

  -- a finding against the thread u names an event of u
  rival_thread : (known u : ℕ) (p : Two) → Rival known T j u p → (p.0.thread ≡ u) × (p.1 ≡ j)
  rival_thread known u p h =
      ⊎_elim
      (λ x. ((looked_up is_write_letter u j.number T r p.0 x.access).1.thread, x.later))
      (λ x. ((looked_up is_read u j.number T r p.0 x.1.access).1.thread, x.1.later))
      h.kind

  order_below : (n : ℕ) → InOrder (against_below n T j)
  unfolding against_below
  order_below zero = tt
  order_below (suc n) =
      order_append (against_below n T j) (against_one (known_of T j n) T j n) (order_below n) (order_thread (known_of T j n) n)
      (λ a b m k.
      let x = (below_has n T j a).0 m in
      let s = rival_thread (known_of T j x.thread) x.thread a x.rival in
      let t = rival_thread (known_of T j n) n b ((thread_has (known_of T j n) T j n b).0 k) in
      by_thread (s.1 ∙ sym t.1) (omega (arith, s.0, t.0, x.below)))

  pub order_at : (n : ℕ) → InOrder (found_at n T j)
  order_at n = go (access j)
    where
      go : (b : Bool) → InOrder (cond b (against_below n T j) [])
      go true = order_below n
      go false = tt

  pub later_at : (n : ℕ) (p : Two) → Memᴰ p (found_at n T j) → p.1 ≡ j
  later_at n p m = let x = ((at_has n T j p).0 m).1 in (rival_thread (known_of T j x.thread) x.thread p x.rival).1

later_after : (n : ℕ) (past T : List Event) → Rising (past ++ T) → (p : Two) → Memᴰ p (found_after n past T) → p.1 ∈ T
later_after n past [] r p m = absurd (Memᴰ.not-nil m)
later_after n past (j ∷ T) r p m =
    ⊎_elim
    (λ a. Memᴰ.head (later_at past (rising_front past (j ∷ T) r) j n p a))
    (λ b. Memᴰ.tail (later_after n (past ++ j ∷ []) T (subst Rising (sym (append_assoc past (j ∷ []) T)) r) p b))
    (Memᴰ.append_cases (found_at n past j) m)

pub order_after : (n : ℕ) (past T : List Event) → Rising (past ++ T) → InOrder (found_after n past T)
order_after n past [] r = tt
order_after n past (j ∷ T) r =
    let front = rising_front past (j ∷ T) r in
    let on : Rising ((past ++ j ∷ []) ++ T) = subst Rising (sym (append_assoc past (j ∷ []) T)) r in
    order_append (found_at n past j) (found_after n (past ++ j ∷ []) T) (order_at past front j n) (order_after n (past ++ j ∷ []) T on)
    (λ a b m k. by_later (omega (arith, same_place (later_at past front j n a m), before_each (past ++ j ∷ []) T on (newest_in past j) (later_after n (past ++ j ∷ []) T on b k))))

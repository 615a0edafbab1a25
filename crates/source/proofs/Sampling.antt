-- A sampler's counters, event by event.
use Rattle.std.proofs.Common.{◌≡◌, ℕ, zero, suc, ◌+◌, ◌-◌, ◌%◌, ◌<◌, Bool, true, false, cond, ◌&&◌, eqb, ltb, leb, ◌≢◌, List, [], ◌∷◌, ◌++◌, length, get_or, set, replicate, sym, refl, ap, ◌∙◌, zero-add, arith}
use native.Mathlib.Nat.{mod-add-mod}
use Rattle.std.specs.Result.{IfOk}
use Rattle.std.proofs.lemmas.List.{get_or-set_same, get_or-set_other}
use Rattle.std.proofs.lemmas.Bool.{eqb-true, eqb-false, leb-true, and_parts}
use Rattle.event.specs.declared.record.Event.{Event}
use Rattle.event.specs.Thins.{access}
use Rattle.event.proofs.Sieving.{sieved_append, sieved_like}
use Rattle.source.proofs.Making.{ok_if}
use Rattle.source.specs.declared.sampler.Counters.{Counters}
use Rattle.source.specs.Sampled.{AccessesAreNumberedByThread, accesses_of, counters_for, in_burst, lets, sampled, sampled_by}

-- the counters after an event: that of its thread has gone up at an access, and is 0 again at the period
abbrev pub counted : Counters → Event → Counters
counted c e = record {
  burst = c.burst;
  last = c.last;
  next = cond (access e) (set c.next e.thread ((get_or c.next e.thread 0 + 1) % (c.last + 1))) c.next;
}

-- The counter of the event's thread goes up by one at an access, and no other does. It may go round at the period p, since only what is left modulo the period counts.
counted_number : (p : ℕ) (next : List ℕ) (e : Event) (M : List Event) (t : ℕ) → (access e ≡ true → e.thread < length next) → (get_or next t 0 + accesses_of t (e ∷ M)) % p ≡ (get_or (cond (access e) (set next e.thread ((get_or next e.thread 0 + 1) % p)) next) t 0 + accesses_of t M) % p
counted_number p next e M t h = go (access e) (eqb e.thread t) refl refl
  where
    go : (a b : Bool) → access e ≡ a → eqb e.thread t ≡ b → (get_or next t 0 + cond (a && b) (1 + accesses_of t M) (accesses_of t M)) % p ≡ (get_or (cond a (set next e.thread ((get_or next e.thread 0 + 1) % p)) next) t 0 + accesses_of t M) % p
    go false b a q = refl
    go true true a q =
        let x = get_or next e.thread 0 in
        let n = accesses_of t M in
        let s = eqb-true e.thread t q in
        let same : get_or next t 0 + (1 + n) ≡ x + 1 + n = ap (λ k. get_or next k 0 + (1 + n)) (sym s) ∙ omega arith in
        ap (λ k. k % p) same ∙ sym (mod-add-mod (x + 1) p n)
        ∙ ap (λ k. (k + n) % p) (sym (get_or-set_same next e.thread ((x + 1) % p) 0 (h a)))
        ∙ ap (λ k. (get_or (set next e.thread ((x + 1) % p)) k 0 + n) % p) s
    go true false a q =
        let other : t ≢ e.thread = λ s. eqb-false e.thread t q (sym s) in
        ap (λ k. (k + accesses_of t M) % p) (sym (get_or-set_other next e.thread t ((get_or next e.thread 0 + 1) % p) 0 other))

-- what the counters let through after an event is what they let through once they have counted it
pub counted_lets : (c d : Counters) (e : Event) → (access e ≡ true → e.thread < length c.next) → d ≡ counted c e → (M : List Event) (f : Event) → lets c (e ∷ M) f ≡ lets d M f
counted_lets c d e h s M f =
    ap (λ n. cond (access f) (ltb n c.burst) true) (counted_number (c.last + 1) c.next e M f.thread h) ∙ ap (λ k. lets k M f) (sym s)

zeros : (n t : ℕ) → ◌≡◌ {A = ℕ} (get_or (replicate n 0) t 0) 0
zeros zero t = refl
zeros (suc n) zero = refl
zeros (suc n) (suc t) = zeros n t

-- new counters number from 0
pub sampled_fresh : (burst period : ℕ) (L : List Event) → IfOk (counters_for burst period) (λ c. sampled_by c L ≡ sampled burst period L)
sampled_fresh burst period L =
    ok_if (λ c. sampled_by c L ≡ sampled burst period L) (leb 1 burst && (leb burst period && leb period 65535)) _ _
    (λ t.
    let parts = and_parts (leb 1 burst) (leb burst period && leb period 65535) t in
    let low = leb-true 1 burst parts.0 in
    let high = leb-true burst period (and_parts (leb burst period) (leb period 65535) parts.1).0 in
    sieved_like _ _ [] [] L (same (omega arith)))
  where
    -- the same test by numbers that are the same
    same : period - 1 + 1 ≡ period → (past : List Event) (e : Event) → lets (record { burst = burst; last = period - 1; next = replicate 16 0 }) past e ≡ cond (access e) (in_burst burst period (accesses_of e.thread past)) true
    same p past e =
        let n = accesses_of e.thread past in
        let none : get_or (replicate 16 0) e.thread 0 + n ≡ n = ap (λ k. k + n) (zeros 16 e.thread) ∙ zero-add n in
        λ i. cond (access e) (in_burst burst (p i) (none i)) true

pub numbered_by_thread : AccessesAreNumberedByThread
numbered_by_thread b p past e =
    sieved_append (λ before f. cond (access f) (in_burst b p (accesses_of f.thread before)) true) [] past (e ∷ [])
    ∙ ap (λ l. sampled b p past ++ l) (last (access e))
  where
    last : (a : Bool) → cond (cond a (ltb (accesses_of e.thread past % p) b) true) (e ∷ []) [] ≡ cond a (cond (ltb (accesses_of e.thread past % p) b) (e ∷ []) []) (e ∷ [])
    last true = refl
    last false = refl

-- A picker's own bytes, and what they let through.
use Rattle.std.proofs.Common.{◌≡◌, ℕ, ◌-◌, ◌<◌, ◌≤◌, Bool, true, false, cond, not, eqb, leb, List, [], ◌++◌, length, get_or, take, drop, replicate, is_ok, Ok, Err, Result, sym, refl, ap, ◌∙◌, subst, arith}
use Rattle.std.specs.Result.{IfOk}
use Rattle.std.proofs.lemmas.List.{length-take-le, get_or_append_left, get_or-take, drop-replicate}
use Rattle.std.proofs.lemmas.Bool.{false≢true, le-leb, leb-true, cond-true}
use Rattle.event.specs.declared.counts.Counts.{Counts}
use Rattle.event.specs.declared.fault.CallerFault.{CallerFault}
use Rattle.event.specs.declared.fault.CallerFault.TheVariants.{Table}
use Rattle.event.specs.declared.record.Event.{Event}
use Rattle.event.specs.Order.{Access, reads, writes}
use Rattle.event.specs.Ranges.{limit}
use Rattle.event.specs.Thins.{Placed, Sound, access}
use Rattle.event.proofs.Sieving.{sieved_alike}
use Rattle.event.proofs.Thinning.{access_true}
use Rattle.source.specs.declared.picker.Picks.{Picks}
use Rattle.source.proofs.Making.{ok_if}
use Rattle.source.specs.Picked.{own_bytes, passes, picked, picks_for}

-- where the bytes are enough, the own copy has them
pub picked_enough : (v : ℕ) (bytes : List ℕ) (p : Picks) → Ok p ≡ picks_for v bytes → (v ≤ length bytes) × (p.bytes ≡ own_bytes v bytes)
picked_enough v bytes p h = go (leb v (length bytes)) refl h
  where
    go : (b : Bool) → leb v (length bytes) ≡ b → ◌≡◌ {A = Result Picks CallerFault} (Ok p) (cond b (Ok (record { bytes = own_bytes v bytes })) (Err (Table v))) → (v ≤ length bytes) × (p.bytes ≡ own_bytes v bytes)
    go true t q =
        let s : p ≡ record { bytes = own_bytes v bytes } = cc in
        (leb-true v (length bytes) t, ap (λ (k : Picks). k.bytes) s)
    go false t q = absurd (false≢true (sym (ap is_ok q)))

pub enough : (v : ℕ) (bytes : List ℕ) (p : Picks) → v ≤ length bytes → p.bytes ≡ own_bytes v bytes → Ok p ≡ picks_for v bytes
enough v bytes p h s =
    (λ i. Ok (record { bytes = s i })) ∙ sym (cond-true (leb v (length bytes)) (Ok (record { bytes = own_bytes v bytes })) (Err (Table v)) (le-leb v (length bytes) h))

-- a copy into the front of 256 zeros
pub own_front : (v w : ℕ) (bytes copy : List ℕ) → w ≡ v → copy ≡ take w bytes → copy ++ drop w (replicate 256 0) ≡ own_bytes v bytes
own_front v w bytes copy p q =
    ap (λ l. l ++ drop w (replicate 256 0)) q ∙ ap (λ k. take k bytes ++ drop k (replicate 256 0)) p
    ∙ ap (λ l. take v bytes ++ l) (drop-replicate v 256 0)

-- a copy of enough bytes into the front of 256 zeros
pub own_copy : (v w : ℕ) (bytes copy : List ℕ) → w ≡ v → w ≤ length bytes → copy ≡ take w bytes → Ok (record { bytes = copy ++ drop w (replicate 256 0) }) ≡ picks_for v bytes
own_copy v w bytes copy p h q =
    let same = own_front v w bytes copy p q in
    (λ i. Ok (record { bytes = same i })) ∙ sym (cond-true (leb v (length bytes)) _ _ (le-leb v (length bytes) (omega arith)))

-- an access is to a declared variable
access_number : (c : Counts) (e : Event) → Placed c e → access e ≡ true → e.number < c.variables
access_number c e p h = go (access_true e h)
  where
    go : Access e → e.number < c.variables
    go (reads s) = subst (λ (n : ℕ). e.number < n) (ap (limit c) s) p.number
    go (writes s) = subst (λ (n : ℕ). e.number < n) (ap (limit c) s) p.number

-- An access is to a declared variable, and for such a variable the picker's own byte is the caller's.
pub picked_own : (c : Counts) (bytes : List ℕ) (L : List Event) → Sound c L → IfOk (picks_for c.variables bytes) (λ p. picked p.bytes L ≡ picked bytes L)
picked_own c bytes L sound =
    ok_if (λ p. picked p.bytes L ≡ picked bytes L) (leb c.variables (length bytes)) _ _
    (λ t. sieved_alike (Placed c) _ _ [] [] L (λ past e p. same (leb-true c.variables (length bytes) t) e p) sound.placed)
  where
    byte : (v : ℕ) → v ≤ length bytes → (n : ℕ) → n < v → get_or (own_bytes v bytes) n 0 ≡ get_or bytes n 0
    byte v l n h =
        let k : n < length (take v bytes) = omega (arith, length-take-le v bytes l) in
        get_or_append_left (take v bytes) (replicate (256 - v) 0) 0 n k ∙ get_or-take v bytes n 0 h

    same : c.variables ≤ length bytes → (e : Event) → Placed c e → passes (own_bytes c.variables bytes) e ≡ passes bytes e
    same l e p = go (access e) refl
      where
        go : (b : Bool) → access e ≡ b → cond b (not (eqb (get_or (own_bytes c.variables bytes) e.number 0) 0)) true ≡ cond b (not (eqb (get_or bytes e.number 0) 0)) true
        go true h = ap (λ n. not (eqb n 0)) (byte c.variables l e.number (access_number c e p h))
        go false h = refl

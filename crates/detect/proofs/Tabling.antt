-- The table of latest accesses: its slots are apart, a cleared one holds nothing, and one more access keeps it right.
use Rattle.std.proofs.Common.{◌≡◌, ℕ, ◌+◌, ◌*◌, ◌/◌, ◌%◌, ◌<◌, ◌≤◌, min, Bool, true, false, cond, eqb, ◌⊎◌, List, [], ◌∷◌, ◌++◌, length, get_or, drop, set, replicate, Some, None, Option, sym, refl, ap, ◌∙◌, inl, inr, ⊎_elim, mul-le-mul_right, mul_assoc, mul_comm, add-mul, arith}
use Rattle.std.proofs.lemmas.List.{get_or-set_same, get_or-set_other, length-set, length-replicate, drop_at, drop-set-lt}
use Rattle.std.proofs.lemmas.Nat.{div-mul-add, mod-mul-add}
use Rattle.std.proofs.lemmas.Bool.{false_from_ne_true, both_ways, and_from, and_left, and_right, eq-eqb, ne_eqb, cases_eq, cond_both}
use Rattle.event.specs.declared.counts.Counts.{Counts}
use Rattle.event.specs.declared.letter.Letter.{Letter}
use Rattle.event.specs.declared.letter.Letter.TheVariants.{Read, Write}
use Rattle.event.specs.declared.record.Event.{Event}
use Rattle.event.specs.Thins.{accesses, access}
use Rattle.finds.specs.Latest.{is_write_letter, is_read, touches, latest}
use Rattle.finds.proofs.Latests.{write_is, read_is, latest_push}
use Rattle.event.proofs.Clearing.{length_cleared, cleared_at}
use Rattle.event.specs.Tables.{cleared}
use Rattle.detect.specs.Table.{size, slot, noted, Holds}
use Rattle.detect.proofs.Rivals.{access_letter}

-- a place has one row and one column
pair_once : (n u v u' v' : ℕ) → u < n → u' < n → v * n + u ≡ v' * n + u' → (v ≡ v') × (u ≡ u')
pair_once n u v u' v' p q e = (
  sym (div-mul-add v n u p) ∙ ap (λ m. m / n) e ∙ div-mul-add v' n u' q,
  sym (mod-mul-add v n u p) ∙ ap (λ m. m % n) e ∙ mod-mul-add v' n u' q,
)

slot_within : (c : Counts) (l : Letter) (u v : ℕ) → u < c.threads → v < c.variables → slot c l u v < size c
slot_within c l u v p q =
    let row : (v + 1) * c.threads ≤ c.variables * c.threads = mul-le-mul_right c.threads (omega arith) in
    let all : size c ≡ 2 * (c.variables * c.threads) = mul_assoc 2 c.threads c.variables ∙ ap (λ x. 2 * x) (mul_comm c.threads c.variables) in
    let kind : cond (is_write_letter l) 0 1 ≤ 1 = cond_both (is_write_letter l) 0 1 (λ n. n ≤ 1) (λ e. omega arith) (λ e. omega arith) in
    omega (arith, row, all, kind, add-mul v 1 c.threads, p)

-- entries of different kinds, threads or variables have different slots
slot_once : (c : Counts) (l m : Letter) (u v u' v' : ℕ) → u < c.threads → u' < c.threads → slot c l u v ≡ slot c m u' v' → (is_write_letter l ≡ is_write_letter m) × (v ≡ v') × (u ≡ u')
slot_once c l m u v u' v' p q e = go (is_write_letter l) (is_write_letter m) e
  where
    go : (a b : Bool) → 2 * (v * c.threads + u) + cond a 0 1 ≡ 2 * (v' * c.threads + u') + cond b 0 1 → (a ≡ b) × (v ≡ v') × (u ≡ u')
    go true true h = let s = pair_once c.threads u v u' v' p q (omega arith) in (refl, s.0, s.1)
    go false false h = let s = pair_once c.threads u v u' v' p q (omega arith) in (refl, s.0, s.1)
    go true false h = absurd (omega arith)
    go false true h = absurd (omega arith)

-- clearing leaves the entries behind
pub cleared_spare : {X : Type 0} (n : ℕ) (x : X) (xs : List X) → n ≤ length xs → drop n (cleared n x xs) ≡ drop n xs
cleared_spare n x xs h = drop_at (replicate (min n (length xs)) x) (drop n xs) n (length-replicate (min n (length xs)) x ∙ omega arith)

-- a cleared table holds what has passed: nothing
pub holds_none : (c : Counts) (table : List (Option Event)) → size c ≤ length table → Holds c [] (cleared (size c) None table)
holds_none c table h = record {
  long = omega (arith, length_cleared (size c) None table);
  write = λ u v p q. cleared_at (size c) None table (slot c Write u v) (slot_within c Write u v p q) h;
  read = λ u v p q. cleared_at (size c) None table (slot c Read u v) (slot_within c Read u v p q) h;
}

-- an event that is no access is of neither kind
no_access : (l : Letter) → accesses l ≡ false → (is_write_letter l ≡ false) × (is_read l ≡ false)
no_access l h = (
  false_from_ne_true _ (λ k. both_ways (accesses l) h (ap accesses (write_is l k))),
  false_from_ne_true _ (λ k. both_ways (accesses l) h (ap accesses (read_is l k))),
)

-- an event of another kind, thread or number
untouched : (kind : Letter → Bool) (u v : ℕ) (e : Event) → (kind e.letter ≡ false) ⊎ ((e.thread ≡ u → ⊥) ⊎ (e.number ≡ v → ⊥)) → touches kind u v e ≡ false
untouched kind u v e (inl k) = and_left (kind e.letter) _ k
untouched kind u v e (inr (inl s)) = and_right (kind e.letter) _ (and_left (eqb e.thread u) _ (ne_eqb _ _ s))
untouched kind u v e (inr (inr t)) = and_right (kind e.letter) _ (and_right (eqb e.thread u) _ (ne_eqb _ _ t))

module _ (c : Counts) (T : List Event) (table : List (Option Event)) (h : Holds c T table) (e : Event) where
  -- an event that is not of a kind leaves the latest of that kind
  other : (kind : Letter → Bool) (u v : ℕ) → touches kind u v e ≡ false → latest kind u v (T ++ e ∷ []) ≡ latest kind u v T
  other kind u v p = latest_push kind u v T e ∙ ap (λ b. cond b (Some e) (latest kind u v T)) p

  -- the table after an access, at the slot of a kind l, where it held the latest of that kind
  noted_at : (kind : Letter → Bool) (l : Letter) → e.thread < c.threads → e.number < c.variables → (kind e.letter ≡ true → e.letter ≡ l) → (kind e.letter ≡ false → is_write_letter e.letter ≡ is_write_letter l → ⊥) →
      (u v : ℕ) → u < c.threads → v < c.variables → get_or table (slot c l u v) None ≡ latest kind u v T →
      get_or (set table (slot c e.letter e.thread e.number) (Some e)) (slot c l u v) None ≡ latest kind u v (T ++ e ∷ [])
  noted_at kind l own var sort unsort u v p q is = go (kind e.letter) refl (cases_eq e.thread u) (cases_eq e.number v)
    where
      away : (slot c l u v ≡ slot c e.letter e.thread e.number → ⊥) → touches kind u v e ≡ false → get_or (set table (slot c e.letter e.thread e.number) (Some e)) (slot c l u v) None ≡ latest kind u v (T ++ e ∷ [])
      away ne un = get_or-set_other table (slot c e.letter e.thread e.number) (slot c l u v) (Some e) None ne ∙ is ∙ sym (other kind u v un)

      go : (b : Bool) → kind e.letter ≡ b → (e.thread ≡ u) ⊎ (e.thread ≡ u → ⊥) → (e.number ≡ v) ⊎ (e.number ≡ v → ⊥) → get_or (set table (slot c e.letter e.thread e.number) (Some e)) (slot c l u v) None ≡ latest kind u v (T ++ e ∷ [])
      go true k (inl s) (inl t) =
          let at : slot c l u v ≡ slot c e.letter e.thread e.number = λ i. slot c (sym (sort k) i) (sym s i) (sym t i) in
          let in_table : slot c e.letter e.thread e.number < length table = omega (arith, slot_within c e.letter e.thread e.number own var, h.long) in
          let yes_touches : touches kind u v e ≡ true = and_from _ _ k (and_from _ _ (eq-eqb _ _ s) (eq-eqb _ _ t)) in
          ap (λ n. get_or (set table (slot c e.letter e.thread e.number) (Some e)) n None) at
          ∙ get_or-set_same table (slot c e.letter e.thread e.number) (Some e) None in_table
          ∙ sym (latest_push kind u v T e ∙ ap (λ b. cond b (Some e) (latest kind u v T)) yes_touches)
      go true k (inr s) t = away (λ x. s (sym (slot_once c l e.letter u v e.thread e.number p own x).2)) (untouched kind u v e (inr (inl s)))
      go true k (inl s) (inr t) = away (λ x. t (sym (slot_once c l e.letter u v e.thread e.number p own x).1)) (untouched kind u v e (inr (inr t)))
      go false k s t = away (λ x. unsort k (sym (slot_once c l e.letter u v e.thread e.number p own x).0)) (untouched kind u v e (inl k))

  -- one more access
  holds_access : access e ≡ true → e.thread < c.threads → e.number < c.variables → Holds c (T ++ e ∷ []) (set table (slot c e.letter e.thread e.number) (Some e))
  holds_access a own var = record {
    long = omega (arith, h.long, length-set table (slot c e.letter e.thread e.number) (Some e));
    write = λ u v p q. noted_at is_write_letter Write own var (write_is e.letter) (both_ways _) u v p q (h.write u v p q);
    read = λ u v p q. noted_at is_read Read own var (read_is e.letter) read_unsort u v p q (h.read u v p q);
  }
    where
      read_unsort : is_read e.letter ≡ false → is_write_letter e.letter ≡ is_write_letter Read → ⊥
      read_unsort k s = ⊎_elim (λ r. both_ways (is_read e.letter) k (ap is_read r)) (λ w. both_ways (is_write_letter e.letter) s (ap is_write_letter w)) (access_letter e.letter a)

  -- one more event that is no access
  holds_other : access e ≡ false → Holds c (T ++ e ∷ []) table
  holds_other a =
      let n = no_access e.letter a in
      record {
        long = h.long;
        write = λ u v p q. h.write u v p q ∙ sym (other is_write_letter u v (untouched is_write_letter u v e (inl n.0)));
        read = λ u v p q. h.read u v p q ∙ sym (other is_read u v (untouched is_read u v e (inl n.1)));
      }

  pub holds_push : e.thread < c.threads → (access e ≡ true → e.number < c.variables) → Holds c (T ++ e ∷ []) (noted c table e)
  holds_push own var = go (access e) refl
    where
      go : (b : Bool) → access e ≡ b → Holds c (T ++ e ∷ []) (cond b (set table (slot c e.letter e.thread e.number) (Some e)) table)
      go true a = holds_access a own (var a)
      go false a = holds_other a

-- an event leaves the entries that the counts do not use
pub noted_spare : (c : Counts) (table : List (Option Event)) (e : Event) → e.thread < c.threads → (access e ≡ true → e.number < c.variables) → drop (size c) (noted c table e) ≡ drop (size c) table
noted_spare c table e own var = go (access e) refl
  where
    go : (b : Bool) → access e ≡ b → drop (size c) (cond b (set table (slot c e.letter e.thread e.number) (Some e)) table) ≡ drop (size c) table
    go true a = drop-set-lt (size c) table (slot c e.letter e.thread e.number) (Some e) (slot_within c e.letter e.thread e.number own (var a))
    go false a = refl

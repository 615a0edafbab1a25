-- The table of the objects' kinds, written entry by entry.
use Rattle.std.proofs.Common.{◌≡◌, ℕ, zero, suc, ◌+◌, ◌<◌, ◌≤◌, ◌⊎◌, List, [], ◌∷◌, map, length, get_or, set, replicate, sym, refl, ap, ◌∙◌, inl, inr, ⊎_elim, zero-add, arith, length-set, get_or-set_other, get_or-set_same}
use Rattle.std.proofs.lemmas.List.{get_or_past}
use Rattle.std.proofs.str.Laws.{order}
use Rattle.format.specs.declared.kinds.ObjectKind.{ObjectKind}
use Rattle.format.specs.declared.kinds.ObjectKind.TheVariants.{Semaphore}
use Rattle.format.specs.Items.{Item}
use Rattle.format.specs.Standings.{kind_of, kinds_of, kind_at, kind_table, written}

-- the kinds of entries with their offsets
abbrev pub kinds_laid : List (ℕ × Item) → List ObjectKind
kinds_laid l = kinds_of (map (λ y. y.1) l)

-- the table after one entry more, and after none
pub written_more : (table : List ObjectKind) (i : ℕ) (k : ObjectKind) (laid rest : List (ℕ × Item)) (y : ℕ × Item) → k ≡ kind_of y.1 → laid ≡ y ∷ rest → written (set table i k) (i + 1) (kinds_laid rest) ≡ written table i (kinds_laid laid)
written_more table i k laid rest y e h = ap (λ z. written (set table i z) (i + 1) (kinds_laid rest)) e ∙ sym (ap (λ l. written table i (kinds_laid l)) h)

pub written_none : (table : List ObjectKind) (i : ℕ) (laid : List (ℕ × Item)) → laid ≡ [] → table ≡ written table i (kinds_laid laid)
written_none table i laid h = sym (ap (λ l. written table i (kinds_laid l)) h)

-- writing changes the entries written, and no others
outside : (table : List ObjectKind) (i : ℕ) (ks : List ObjectKind) (m : ℕ) → (m < i) ⊎ (i + length ks ≤ m) → kind_at (written table i ks) m ≡ kind_at table m
outside table i [] m o = refl
outside table i (k ∷ ks) m o =
    outside (set table i k) (i + 1) ks m (⊎_elim (λ a. inl (omega arith)) (λ b. inr (omega arith)) o)
    ∙ get_or-set_other table i m k Semaphore (λ s. ⊎_elim (λ a. omega arith) (λ b. omega arith) o)

inside : (table : List ObjectKind) (i : ℕ) (ks : List ObjectKind) (j : ℕ) → i + length ks ≤ length table → j < length ks → kind_at (written table i ks) (i + j) ≡ kind_at ks j
inside table i [] j le lt = absurd (omega arith)
inside table i (k ∷ ks) zero le lt =
    let z : i + 0 ≡ i = omega arith in
    ap (kind_at (written table i (k ∷ ks))) z ∙ outside (set table i k) (i + 1) ks i (inl (omega arith)) ∙ get_or-set_same table i k Semaphore (omega arith)
inside table i (k ∷ ks) (suc j) le lt =
    let z : i + suc j ≡ i + 1 + j = omega arith in
    let n = length-set table i k in
    ap (kind_at (written table i (k ∷ ks))) z ∙ inside (set table i k) (i + 1) ks j (omega arith) (omega arith)

pub same_everywhere : {A : Type 0} (n k : ℕ) (a : A) → get_or (replicate n a) k a ≡ a
same_everywhere zero k a = refl
same_everywhere (suc n) zero a = refl
same_everywhere (suc n) (suc k) a = same_everywhere n k a

-- the table has the kinds of the objects, and no mutex behind them
pub table_kinds : (ks : List ObjectKind) → length ks ≤ 512 → (m : ℕ) → kind_at (kind_table ks) m ≡ kind_at ks m
table_kinds ks le m =
    ⊎_elim
    (λ lt. ap (kind_at (kind_table ks)) (sym (zero-add m)) ∙ inside (replicate 512 Semaphore) 0 ks m (omega (arith, zero-add (length ks))) lt)
    (λ ge. outside (replicate 512 Semaphore) 0 ks m (inr (omega arith)) ∙ same_everywhere 512 m Semaphore ∙ sym (get_or_past ks m Semaphore ge))
    (order m (length ks))

-- A table that is cleared from its front on.
use Rattle.std.proofs.Common.{◌≡◌, ℕ, zero, suc, ◌+◌, ◌<◌, ◌≤◌, min, List, [], ◌∷◌, ◌++◌, length, get_or, drop, set, replicate, refl, ap, ◌∙◌, add-one, arith, length-append, length-drop}
use Rattle.std.proofs.lemmas.List.{get_or_append_left, get_or-replicate, length-replicate}
use Rattle.event.specs.Tables.{cleared}

clear_suc : {S : Type 0} (i : ℕ) (xs : List S) (x : S) → i < length xs → set (replicate i x ++ drop i xs) i x ≡ replicate (suc i) x ++ drop (suc i) xs
clear_suc zero [] x h = absurd (omega arith)
clear_suc zero (y ∷ xs) x h = refl
clear_suc (suc i) [] x h = absurd (omega arith)
clear_suc (suc i) (y ∷ xs) x h = ap (λ l. x ∷ l) (clear_suc i xs x (omega arith))

-- one entry more is cleared
pub clear_more : {S : Type 0} (i : ℕ) (xs : List S) (x : S) → i < length xs → set (replicate i x ++ drop i xs) i x ≡ replicate (i + 1) x ++ drop (i + 1) xs
clear_more i xs x h = rw add-one (clear_suc i xs x h)

pub length_cleared : {S : Type 0} (n : ℕ) (x : S) (xs : List S) → length (cleared n x xs) ≡ length xs
length_cleared n x xs = omega (arith, length-append (replicate (min n (length xs)) x) (drop n xs), length-replicate (min n (length xs)) x, length-drop n xs)

-- an entry that was cleared
pub cleared_at : {S : Type 0} (n : ℕ) (x : S) (xs : List S) (k : ℕ) → k < n → n ≤ length xs → get_or (cleared n x xs) k x ≡ x
cleared_at n x xs k lt le =
    get_or_append_left (replicate (min n (length xs)) x) (drop n xs) x k (omega (arith, length-replicate (min n (length xs)) x))
    ∙ get_or-replicate (min n (length xs)) k x x (omega arith)

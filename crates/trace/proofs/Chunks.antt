-- The events of a block, each from its own six bytes.
use Rattle.std.proofs.Common.{◌≡◌, ℕ, zero, suc, ◌+◌, ◌-◌, ◌*◌, ◌<◌, List, [], ◌∷◌, get_or, take, drop, sym, refl, ap, ◌∙◌, arith}
use Rattle.std.proofs.lemmas.List.{drop-drop}
use Rattle.std.specs.Simd.{first_chunks}
use Rattle.event.specs.declared.counts.Counts.{Counts}
use Rattle.format.specs.declared.fault.OrderFault.TheVariants.{Events}
use Rattle.format.specs.declared.kinds.ObjectKind.{ObjectKind}
use Rattle.format.specs.Events.{read_event}
use Rattle.format.specs.Parse.{lift, and_then}
use Rattle.format.specs.Standings.{Standing, stepped, ruled_from}
use Rattle.format.proofs.Checks.{verdict, verdict_step}

-- an event needs no other bytes
pub read_front : (c : Counts) (i : ℕ) (bs : List ℕ) → read_event c i (take 6 bs) ≡ read_event c i bs
read_front c i [] = refl
read_front c i (a ∷ []) = refl
read_front c i (a ∷ b ∷ []) = refl
read_front c i (a ∷ b ∷ d ∷ []) = refl
read_front c i (a ∷ b ∷ d ∷ e ∷ []) = refl
read_front c i (a ∷ b ∷ d ∷ e ∷ f ∷ []) = refl
read_front c i (a ∷ b ∷ d ∷ e ∷ f ∷ g ∷ bs) = refl

chunk_at : (k i : ℕ) (bs : List ℕ) → i < k → get_or (first_chunks 6 k bs) i [] ≡ take 6 (drop (6 * i) bs)
chunk_at zero i bs h = absurd (omega arith)
chunk_at (suc k) zero bs h = refl
chunk_at (suc k) (suc i) bs h = chunk_at k i (drop 6 bs) (omega arith) ∙ ap (take 6) (drop-drop (6 * i) 6 bs ∙ ap (λ n. drop n bs) (omega arith))

-- the event with the place i, read from the i-th chunk of six bytes
read_chunk : (c : Counts) (k i : ℕ) (bs : List ℕ) (cs : List (List ℕ)) → cs ≡ first_chunks 6 k bs → i < k → read_event c i (get_or cs i []) ≡ read_event c i (drop (6 * i) bs)
read_chunk c k i bs cs e h = ap (λ l. read_event c i (get_or l i [])) e ∙ ap (read_event c i) (chunk_at k i bs h) ∙ read_front c i (drop (6 * i) bs)

-- one event of n, whatever comes of it, where the bytes are cut into chunks of six
pub chunk_step : (ks : List ObjectKind) (c : Counts) (s : Standing) (i n : ℕ) (bs : List ℕ) (cs : List (List ℕ)) → cs ≡ first_chunks 6 n bs → i < n → verdict (ruled_from ks c s i (n - i) (drop (6 * i) bs)) ≡ and_then (lift Events (read_event c i (get_or cs i []))) (λ e. and_then (stepped ks s e) (λ z. verdict (ruled_from ks c z (i + 1) (n - (i + 1)) (drop (6 * (i + 1)) bs))))
chunk_step ks c s i n bs cs e h =
    let next : drop 6 (drop (6 * i) bs) ≡ drop (6 * (i + 1)) bs = drop-drop 6 (6 * i) bs ∙ ap (λ k. drop k bs) (omega arith) in
    verdict_step ks c s i (n - i) (n - (i + 1)) (drop (6 * i) bs) (omega arith)
    ∙ (λ j. and_then (lift Events (sym (read_chunk c n i bs cs e h) j)) (λ x. and_then (stepped ks s x) (λ z. verdict (ruled_from ks c z (i + 1) (n - (i + 1)) (next j)))))

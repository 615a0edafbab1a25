-- What the sinks' records are after many pairs, by going through them from the first.
use Rattle.std.proofs.Common.{◌≡◌, ℕ, ◌+◌, ◌*◌, ◌<◌, Bool, true, false, cond, eqb, ◌≢◌, List, [], ◌∷◌, length, get_or, drop, set, sym, refl, ap, ◌∙◌, append_assoc, append-nil, arith, length-set, get_or-set_other, get_or-set_same, eqb-true}
use borrow.Author.Tests.{eqb-false}
use Rattle.std.proofs.lemmas.List.{drop-drop}
use Rattle.std.specs.List.{flat_map}
use Rattle.sink.specs.Histories.{LinesFollow, CountersCount, times}
use Rattle.sink.specs.Line.{line}
use Rattle.sink.specs.Tallied.{one_more, counter}
use Rattle.sink.specs.Written.{with_line}
use Rattle.sink.proofs.Writing.{same_written}

pub lines_follow_lem : LinesFollow
lines_follow_lem w [] = same_written w.lender (sym (append-nil w.lines)) refl
lines_follow_lem w (p ∷ ps) =
    let n : 21 + length ps * 21 ≡ (length (p ∷ ps)) * 21 = omega arith in
    lines_follow_lem (with_line w p) ps
    ∙ same_written w.lender (append_assoc w.lines (line p) (flat_map line ps)) (drop-drop (length ps * 21) 21 w.space ∙ ap (λ k. drop k w.space) n)

-- A counter after one more of the variable k: its own grows, and the others stay.
counted_at : (cs : List ℕ) (j k v n : ℕ) → j ≡ k → v < length cs → (b : Bool) → eqb k v ≡ b → get_or (set cs j (get_or cs j 0 + 1)) v 0 + n ≡ get_or cs v 0 + cond b (1 + n) n
counted_at cs j k v n own inside true e =
    let here : j ≡ v = own ∙ eqb-true k v e in
    let now : get_or (set cs v (get_or cs v 0 + 1)) v 0 ≡ get_or cs v 0 + 1 = get_or-set_same cs v (get_or cs v 0 + 1) 0 inside in
    ap (λ i. get_or (set cs i (get_or cs i 0 + 1)) v 0 + n) here ∙ omega arith
counted_at cs j k v n own inside false e =
    let apart : v ≢ j = λ q. eqb-false k v e (sym (q ∙ own)) in
    let stays : get_or (set cs j (get_or cs j 0 + 1)) v 0 ≡ get_or cs v 0 = get_or-set_other cs j v (get_or cs j 0 + 1) 0 apart in
    omega arith

pub counters_count_lem : CountersCount
counters_count_lem cs [] v long small each = omega arith
counters_count_lem cs (p ∷ ps) v long small each =
    let below : p.earlier.number < 256 = each.0 in
    let own : counter p ≡ p.earlier.number = omega arith in
    let inside : v < length cs = omega arith in
    let kept : length (one_more cs p) ≡ 256 = length-set cs (counter p) (get_or cs (counter p) 0 + 1) ∙ long in
    counters_count_lem (one_more cs p) ps v kept small each.1
    ∙ counted_at cs (counter p) p.earlier.number v (times v ps) own inside (eqb p.earlier.number v) refl

-- What was reported into lines is what is printed.
use Rattle.std.proofs.Common.{◌≡◌, ℕ, zero, suc, ◌-◌, ◌*◌, ◌≤◌, min, false, ltb, List, [], ◌∷◌, ◌++◌, length, take, Ok, fold, sym, refl, ap, ◌∙◌, subst, append_assoc, append-nil, arith, length-append}
use Rattle.std.specs.List.{flat_map}
use Rattle.std.proofs.lemmas.List.{take_at, length-take-le}
use Rattle.std.proofs.lemmas.Bool.{le-ltb}
use Rattle.format.specs.Trace.{Contents, read_trace}
use Rattle.order.specs.Runs.{Two, Reported}
use Rattle.sink.specs.Line.{line}
use Rattle.sink.specs.Written.{Written, with_line}
use Rattle.detect.specs.Pairs.{pair_of}
use Rattle.output.specs.Inputs.{AnswersBy, Answers}
use Rattle.output.specs.Lines.{totals_text}
use Rattle.output.specs.Races.{report}
use Rattle.output.specs.Words.{Said}

abbrev line_of : Two → List ℕ
line_of p = line (pair_of p)

-- one line after another
lines_after : (w : Written) (ps : List Two) → (fold (λ l p. with_line l (pair_of p)) w ps).lines ≡ w.lines ++ flat_map line_of ps
lines_after w [] = sym (append-nil w.lines)
lines_after w (p ∷ ps) = lines_after (with_line w (pair_of p)) ps ∙ append_assoc w.lines (line_of p) (flat_map line_of ps)

lines_size : (ps : List Two) → length (flat_map line_of ps) ≡ 21 * length ps
lines_size [] = refl
lines_size (p ∷ ps) = let h = lines_size ps in omega (arith, length-append (line_of p) (flat_map line_of ps))

take_min : {X : Type 0} (n : ℕ) (xs : List X) → take (min n (length xs)) xs ≡ take n xs
take_min zero xs = let z : min 0 (length xs) ≡ 0 = omega arith in ap (λ m. take m xs) z
take_min (suc n) [] = let z : min (suc n) 0 ≡ 0 = omega arith in ap (λ m. take m []) z
take_min (suc n) (x ∷ xs) =
    let z : min (suc n) (suc (length xs)) ≡ suc (min n (length xs)) = omega arith in
    ap (λ m. take m (x ∷ xs)) z ∙ ap (λ l. x ∷ l) (take_min n xs)

-- the front of the bytes, as long as the lines written, and the totals are the listing of the findings
pub record Printed (fs : List Two) (buffer : List ℕ) (found written dropped : ℕ) : Type 0 where
  pub fits : 21 * written ≤ length buffer
  pub printed : take (21 * written) buffer ++ totals_text found written dropped ≡ report fs

pub printed_lines : (fs : List Two) (room : ℕ) (before after : Written) (found written dropped : ℕ) (buffer : List ℕ) → room ≡ 3000 → before.lines ≡ [] → Reported (λ l p. with_line l (pair_of p)) room before after fs found written dropped → buffer ≡ after.lines ++ after.space → Printed fs buffer found written dropped
printed_lines fs room before after found written dropped buffer three none r back =
    let w : written ≡ min 3000 (length fs) = r.first_ones ∙ ap (λ n. min n (length fs)) three in
    let same : take written fs ≡ take 3000 fs = ap (λ n. take n fs) w ∙ take_min 3000 fs in
    let lines : after.lines ≡ flat_map line_of (take 3000 fs) =
    ap (λ (x : Written). x.lines) r.steps ∙ lines_after before (take written fs) ∙ ap (λ l. l ++ flat_map line_of (take written fs)) none ∙ ap (flat_map line_of) same in
    let many : length (take written fs) ≡ written = length-take-le written fs (omega (arith, w)) in
    let size : length after.lines ≡ 21 * written = ap length lines ∙ lines_size (take 3000 fs) ∙ ap (λ l. 21 * length l) (sym same) ∙ ap (λ n. 21 * n) many in
    let lost : dropped ≡ length fs - 3000 = omega (arith, r.all, r.sum, w) in
    record {
      fits = omega (arith, ap length back, length-append after.lines after.space);
      printed =
          (λ i. take (21 * written) (back i) ++ totals_text (r.all i) (w i) (lost i))
          ∙ ap (λ l. l ++ totals_text (length fs) (min 3000 (length fs)) (length fs - 3000)) (take_at after.lines after.space (21 * written) size ∙ lines);
    }

-- an accepted file that is answered by its contents
pub answered : (answer : Contents → Said → Type 0) (bs : List ℕ) (c : Contents) (s : Said) → length bs ≤ 65536 → Ok c ≡ read_trace bs → answer c s → Answers answer bs s
answered answer bs c s le h l =
    let t : ltb 65536 (length bs) ≡ false = le-ltb 65536 (length bs) le in
    subst (λ b. AnswersBy answer b (read_trace bs) s) (sym t) (subst (λ r. AnswersBy answer false r s) h l)

-- A line that is written behind the others.
use Rattle.std.proofs.Common.{◌≡◌, ℕ, ◌+◌, ◌*◌, ◌/◌, ◌<◌, List, ◌++◌, length, take, drop, sym, refl, ap, ◌∙◌, append_assoc, arith, length-append, length-drop}
use borrow.Rule.Slice.PartMut.{put_mid}
use Rattle.std.proofs.lemmas.List.{drop-drop, length-take-le, take_at, drop_at}
use Rattle.sink.specs.declared.pair.Pair.{Pair}
use Rattle.sink.specs.Line.{line, overwritten}
use Rattle.sink.specs.Written.{Written}

pub same_written : (n : ℕ) {a b c d : List ℕ} → a ≡ b → c ≡ d → ◌≡◌ {A = Written} (record { lender = n; lines = a; space = c }) (record { lender = n; lines = b; space = d })
same_written n p q = cc

-- what a write to the part of 21 bytes behind n lines leaves
pub put_line : (at k n : ℕ) (p : Pair) (bytes l : List ℕ) → at ≡ n * 21 → k ≡ 21 → l ≡ line p → put_mid at k bytes l ≡ overwritten n p bytes
put_line at k n p bytes l a w t =
    let e : drop k (drop at bytes) ≡ drop (n * 21 + 21) bytes = drop-drop k at bytes ∙ ap (λ i. drop i bytes) (ap (λ i. i + k) a ∙ ap (λ i. n * 21 + i) w) in
    ap (λ i. take i bytes ++ (l ++ drop k (drop at bytes))) a ∙ ap (λ r. take (n * 21) bytes ++ (r ++ drop k (drop at bytes))) t ∙ ap (λ r. take (n * 21) bytes ++ (line p ++ r)) e

module _ (n : ℕ) (p : Pair) (bytes : List ℕ) (fits : n < length bytes / 21) where
  front : length (take (n * 21) bytes) ≡ n * 21
  front = length-take-le (n * 21) bytes (omega arith)

  pub length_overwritten : length (overwritten n p bytes) ≡ length bytes
  length_overwritten = simp (length-append, length-drop) (omega (arith, front))

  -- the front, up to the new line's end
  lines_overwritten : (m : ℕ) → m ≡ n + 1 → take (m * 21) (overwritten n p bytes) ≡ take (n * 21) bytes ++ line p
  lines_overwritten m e =
      let long : length (take (n * 21) bytes ++ line p) ≡ m * 21 = simp length-append (omega (arith, front)) in
      ap (take (m * 21)) (sym (append_assoc (take (n * 21) bytes) (line p) (drop (n * 21 + 21) bytes)))
      ∙ take_at (take (n * 21) bytes ++ line p) (drop (n * 21 + 21) bytes) (m * 21) long

  -- what stands behind it
  space_overwritten : (m : ℕ) → m ≡ n + 1 → drop (m * 21) (overwritten n p bytes) ≡ drop 21 (drop (n * 21) bytes)
  space_overwritten m e =
      let long : length (take (n * 21) bytes ++ line p) ≡ m * 21 = simp length-append (omega (arith, front)) in
      ap (drop (m * 21)) (sym (append_assoc (take (n * 21) bytes) (line p) (drop (n * 21 + 21) bytes)))
      ∙ drop_at (take (n * 21) bytes ++ line p) (drop (n * 21 + 21) bytes) (m * 21) long
      ∙ sym (drop-drop 21 (n * 21) bytes)

  -- There was room for one line more: so the front grows by the line, and the space loses it.
  pub line_more : (lender : ℕ)
      → ◌≡◌ {A = Written}
      (record { lender = lender; lines = take ((n + 1) * 21) (overwritten n p bytes); space = drop ((n + 1) * 21) (overwritten n p bytes) })
      (record { lender = lender; lines = take (n * 21) bytes ++ line p; space = drop 21 (drop (n * 21) bytes) })
  line_more lender = same_written lender (lines_overwritten (n + 1) refl) (space_overwritten (n + 1) refl)

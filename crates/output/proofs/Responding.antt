-- What is read of an input is enough to answer it.
use Rattle.std.proofs.Common.{◌≡◌, ℕ, not, Bool, true, false, ltb, List, ◌++◌, length, take, [], Some, None, Option, option_map, IfSome, sym, refl, ap, ◌∙◌, subst, arith, ltb-true, ltb-false}
use Rattle.std.proofs.lemmas.List.{take_all, length-take-le}
use Rattle.std.proofs.lemmas.Bool.{lt-ltb}
use Rattle.std.specs.Io.KnownBytes.{Appends}
use Rattle.format.specs.Trace.{Contents, read_trace}
use Rattle.output.specs.Inputs.{AnswersBy, Answers}
use Rattle.output.specs.Programs.{Responds}
use Rattle.output.specs.Words.{Said}

module _ (lists : Contents → Said → Type 0) where
  -- One byte more than the longest input shows that an input is too long. Any other is read whole.
  answers_whole : (bs : List ℕ) (s : Said) → Answers lists (take 65537 bs) s → Answers lists bs s
  answers_whole bs s h = go (ltb 65536 (length bs)) refl
    where
      go : (b : Bool) → ltb 65536 (length bs) ≡ b → Answers lists bs s
      go true e =
          let long : length (take 65537 bs) ≡ 65537 = length-take-le 65537 bs (omega (arith, ltb-true 65536 (length bs) e)) in
          let too : ltb 65536 (length (take 65537 bs)) ≡ true = lt-ltb 65536 (length (take 65537 bs)) (omega (arith, long)) in
          subst (λ b. AnswersBy lists b (read_trace bs) s) (sym e) (subst (λ b. AnswersBy lists b (read_trace (take 65537 bs)) s) too h)
      go false e = subst (λ l. Answers lists l s) (take_all 65537 bs (omega (arith, ltb-false 65536 (length bs) e))) h

  pub responded : (input inner : Option (List ℕ)) (limit : ℕ) (none items read : List ℕ) (before after : Option (List ℕ)) (s : Said) (text : List ℕ) (listed : Bool)
      → inner ≡ input → limit ≡ 65537 → none ≡ [] → IfSome (option_map (take limit) inner) (λ xs. items ≡ none ++ xs) → read ≡ items
      → Answers lists read s → text ≡ s.text → Appends before after text → listed ≡ s.refused
      → IfSome input (λ bytes. Responds lists bytes before after (not listed))
  responded None inner limit none items read before after s text listed o l n i r a t w x = tt
  responded (Some bs) inner limit none items read before after s text listed o l n i r a t w x =
      let held : items ≡ none ++ take limit bs = subst (λ z. IfSome (option_map (take limit) z) (λ xs. items ≡ none ++ xs)) o i in
      record {
        answer = s;
        answers = answers_whole bs s (subst (λ z. Answers lists z s) (r ∙ held ∙ ap (λ z. z ++ take limit bs) n ∙ ap (λ m. take m bs) l) a);
        written = subst (Appends before after) t w;
        is_list = ap not x;
      }

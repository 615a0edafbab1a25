-- The entries that a section which was read gives again, with their offsets.
use Rattle.std.proofs.Common.{◌≡◌, ℕ, zero, suc, true, ◌+◌, ◌-◌, ◌≤◌, max, List, [], ◌∷◌, map, length, Ok, Err, Result, sym, refl, ap, ◌∙◌, subst, arith, length-append}
use Rattle.format.specs.declared.fault.SectionFault.{SectionFault}
use Rattle.format.specs.declared.kinds.SectionKind.{SectionKind}
use Rattle.format.specs.declared.fault.SectionFault.TheVariants.{Bytes, Count}
use Rattle.format.specs.Parse.{map_ok, here, two_from}
use Rattle.format.specs.Names.{within}
use Rattle.format.specs.Items.{Item, item_from, items_from, cons_item, after, laid_next, laid_from, section_body, section_from}
use Rattle.format.specs.Codes.{code_item, items_laid_out}
use Rattle.format.proofs.Steps.{then_ok, map_ok_parts, ok_ok, ok_lift_then, ok_if}
use Rattle.format.proofs.Inverse.{two_size, item_sound, items_sound}

laid_items : (p : ℕ) (is : List Item) → map (λ y. y.1) (items_laid_out p is) ≡ is
laid_items p [] = refl
laid_items p (i ∷ is) = ap (λ l. i ∷ l) (laid_items (p + length (code_item i)) is)

-- Entries that are read one after another are laid out one after another: what is left after one entry is shorter by that entry's bytes, so the
-- next begins where it ends.
laid_out : (k : SectionKind) (t n : ℕ) (bs : List ℕ) (y : List Item × List ℕ) → length bs ≤ t → items_from k t n bs ≡ Ok y → laid_from k t n bs ≡ items_laid_out (here t bs) y.0
laid_out k t zero bs y le h = ap (λ (z : List Item × List ℕ). items_laid_out (here t bs) z.0) (ok_ok {E = SectionFault} ([], bs) y h)
laid_out k t (suc n) bs y le h =
    let a = then_ok (item_from k (here t bs) bs) (λ x. map_ok (cons_item x.0) (items_from k t n x.1)) y h in
    let x = a.0 in
    let b = map_ok_parts (cons_item x.0) (items_from k t n x.1) y a.2 in
    let z = b.0 in
    let size : length bs ≡ length (code_item x.0) + length x.1 = ap length (item_sound k (here t bs) bs x a.1).1 ∙ length-append (code_item x.0) x.1 in
    let next : t - length x.1 ≡ (t - length bs) + length (code_item x.0) = omega arith in
    ap (λ r. laid_next (here t bs) r (laid_from k t n)) a.1
    ∙ ap (λ l. (here t bs, x.0) ∷ l) (laid_out k t n x.1 z (omega arith) b.1 ∙ ap (λ p. items_laid_out p z.0) next)
    ∙ ap (λ (w : List Item × List ℕ). items_laid_out (here t bs) w.0) b.2

-- what `skip` went over
pub record Skipped (k : SectionKind) (t n : ℕ) (bs rest : List ℕ) : Type 0 where
  pub read : items_from k t n bs ≡ Ok (map (λ y. y.1) (laid_from k t n bs), rest)
  pub count : length (map (λ y. y.1) (laid_from k t n bs)) ≡ n
  pub laid : laid_from k t n bs ≡ items_laid_out (here t bs) (map (λ y. y.1) (laid_from k t n bs))

pub skipped : (k : SectionKind) (t n : ℕ) (bs rest : List ℕ) → length bs ≤ t → Ok rest ≡ after (items_from k t n bs) → Skipped k t n bs rest
skipped k t n bs rest le h =
    let a = map_ok_parts (λ (y : List Item × List ℕ). y.1) (items_from k t n bs) rest (sym h) in
    let y = a.0 in
    let out = laid_out k t n bs y le a.1 in
    let e : map (λ y. y.1) (laid_from k t n bs) ≡ y.0 = ap (map (λ y. y.1)) out ∙ laid_items (here t bs) y.0 in
    record {
      read = a.1 ∙ (λ i. Ok (sym e i, a.2 i));
      count = ap length e ∙ (items_sound k t n bs y a.1).0;
      laid = out ∙ ap (items_laid_out (here t bs)) (sym e);
    }

-- one entry of n
pub laid_more : (k : SectionKind) (t n m : ℕ) (bs rest : List ℕ) (i : Item) → n ≡ suc m → Ok (i, rest) ≡ item_from k (here t bs) bs → laid_from k t n bs ≡ (here t bs, i) ∷ laid_from k t m rest
laid_more k t n m bs rest i e h = ap (λ l. laid_from k t l bs) e ∙ ap (λ r. laid_next (here t bs) r (laid_from k t m)) (sym h)

pub laid_none : (k : SectionKind) (t n : ℕ) (bs : List ℕ) (f : SectionFault) → Err f ≡ item_from k (here t bs) bs → laid_from k t n bs ≡ []
laid_none k t zero bs f h = refl
laid_none k t (suc n) bs f h = ap (λ r. laid_next (here t bs) r (laid_from k t n)) (sym h)

-- what a section that was read says
pub record Read (k : SectionKind) (low high t : ℕ) (bs rest : List ℕ) (laid : List (ℕ × Item)) (n : ℕ) : Type 0 where
  pub value : Ok (map (λ y. y.1) laid, rest) ≡ section_from k low high t bs
  pub at : laid ≡ items_laid_out (here t bs + 2) (map (λ y. y.1) laid)
  pub count : length (map (λ y. y.1) laid) ≡ n

section_whole : (k : SectionKind) (low high t n : ℕ) (bs more rest : List ℕ) → length bs ≤ t → within low high n ≡ true → Ok (n, more) ≡ two_from (here t bs) bs → Ok rest ≡ after (items_from k t n more) → Read k low high t bs rest (laid_from k t n more) n
section_whole k low high t n bs more rest le w two skip =
    let size = two_size (here t bs) bs (n, more) (sym two) in
    let s = skipped k t n more rest (omega arith) skip in
    let next : t - length more ≡ t - length bs + 2 = omega arith in
    record {
      value = sym (ok_lift_then Bytes (section_body k low high t (here t bs)) (sym two) ∙ ok_if (within low high n) (items_from k t n more) (Count (here t bs)) w ∙ s.read);
      at = s.laid ∙ ap (λ p. items_laid_out p (map (λ y. y.1) (laid_from k t n more))) next;
      count = s.count;
    }

-- the same where the reader kept the file's length
pub section_read : (k : SectionKind) (low high t tot n : ℕ) (bs more rest : List ℕ) → tot ≡ t → length bs ≤ t → within low high n ≡ true → Ok (n, more) ≡ two_from (here t bs) bs → Ok rest ≡ after (items_from k tot n more) → Read k low high t bs rest (laid_from k tot n more) n
section_read k low high t tot n bs more rest e le w two skip = subst (λ (z : ℕ). Ok rest ≡ after (items_from k z n more) → Read k low high t bs rest (laid_from k z n more) n) (sym e) (section_whole k low high t n bs more rest le w two) skip

-- the same of the section as it is kept, with the bytes from its first entry on and the file's length
pub section_kept : (k : SectionKind) (low high t tot n : ℕ) (bs more bytes rest : List ℕ) → bytes ≡ more → tot ≡ t → length bs ≤ t → within low high n ≡ true → Ok (n, more) ≡ two_from (here t bs) bs → Ok rest ≡ after (items_from k t n more) → Read k low high t bs rest (laid_from k (max tot (length bytes)) n bytes) n
section_kept k low high t tot n bs more bytes rest b e le w two skip =
    let size = two_size (here t bs) bs (n, more) (sym two) in
    let same = ap length b in
    let m : max tot (length bytes) ≡ t = omega arith in
    let read = section_read k low high t (max tot (length bytes)) n bs more rest m le w two (skip ∙ ap (λ z. after (items_from k z n more)) (sym m)) in
    subst (λ z. Read k low high t bs rest (laid_from k (max tot (length bytes)) n z) n) (sym b) read

few_next : (k : SectionKind) (p n : ℕ) (f : List ℕ → List (ℕ × Item)) (r : Result (Item × List ℕ) SectionFault) → ((bs : List ℕ) → length (f bs) ≤ n) → length (laid_next p r f) ≤ suc n
few_next k p n f (Ok x) h = omega (arith, h x.1)
few_next k p n f (Err e) h = omega arith

pub laid_few : (k : SectionKind) (t n : ℕ) (bs : List ℕ) → length (laid_from k t n bs) ≤ n
laid_few k t zero bs = omega arith
laid_few k t (suc n) bs = few_next k (here t bs) n (laid_from k t n) (item_from k (here t bs) bs) (laid_few k t n)

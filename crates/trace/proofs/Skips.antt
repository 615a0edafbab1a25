-- Going over n entries one by one.
use Rattle.std.proofs.Common.{◌≡◌, ℕ, suc, List, Ok, Err, Result, refl, ap, ◌∙◌}
use Rattle.format.specs.declared.fault.SectionFault.{SectionFault}
use Rattle.format.specs.declared.kinds.SectionKind.{SectionKind}
use Rattle.format.specs.Parse.{map_ok, and_then, here}
use Rattle.format.specs.Items.{Item, item_from, items_from, cons_item, after}

after_cons : (i : Item) (r : Result (List Item × List ℕ) SectionFault) → after (map_ok (cons_item i) r) ≡ after r
after_cons i (Ok y) = refl
after_cons i (Err e) = refl

after_then : (r : Result (Item × List ℕ) SectionFault) (F : List ℕ → Result (List Item × List ℕ) SectionFault) → after (and_then r (λ x. map_ok (cons_item x.0) (F x.1))) ≡ and_then r (λ x. after (F x.1))
after_then (Ok x) F = after_cons x.0 (F x.1)
after_then (Err e) F = refl

-- one entry of n, whatever comes of it
pub after_step : (k : SectionKind) (t n m : ℕ) (bs : List ℕ) → n ≡ suc m → after (items_from k t n bs) ≡ and_then (item_from k (here t bs) bs) (λ x. after (items_from k t m x.1))
after_step k t n m bs e = ap (λ n. after (items_from k t n bs)) e ∙ after_then (item_from k (here t bs) bs) (items_from k t m)

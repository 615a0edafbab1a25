use Rattle.std.proofs.Common.{◌≡◌, List, [], ◌∷◌, ℕ, length, min, take, refl, ap, ◌∙◌, rules, tests, arith}
use Rattle.std.specs.List.{list_all}
use Rattle.std.proofs.lemmas.List.{take_min}
use Rattle.std.proofs.lemmas.Iterator.Search.{all_from_yields_List}
use Rattle.std.proofs.lemmas.Iterator.{YieldsList-from_slice}
use Rattle.format.specs.Names.{all_good_bytes, within}
use Rattle.trace.proofs.names.good_front.Goals as goal

good_all : (bs : List ℕ) → list_all (within 33 126) bs ≡ all_good_bytes bs
good_all [] = refl
good_all (b ∷ bs) = grind (arith, good_all bs)

pub returns : goal.returns
returns c =
    let s = c.args.s.now in
    let n = c.args.n in
    let most : c.min-most.result ≡ min n (length s) = omega (arith, c.min-most.ensures) in
    let front = take c.min-most.result s in
    let all = all_from_yields_List (within 33 126) _ _ _ c.all.ensures.ran (YieldsList-from_slice front cc) (λ x b q k. search (rules, tests)) in
    all ∙ good_all front ∙ ap (λ k. all_good_bytes (take k s)) most ∙ ap all_good_bytes (take_min n s)

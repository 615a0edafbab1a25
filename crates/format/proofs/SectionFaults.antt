-- What is wrong with a section, or with the count and the bytes of the events.
use Rattle.std.proofs.Common.{◌≡◌, ℕ, ◌+◌, ◌*◌, ◌/◌, ◌<◌, ◌≤◌, Bool, true, false, cond, ltb, leb, ◌⊎◌, List, ◌++◌, length, get_or, drop, Ok, Err, sym, refl, ap, ◌∙◌, subst, inl, inr, ⊎_elim, arith}
use Rattle.std.specs.List.{flat_map}
use Rattle.std.proofs.lemmas.Bool.{leb-false, ltb-true}
use Rattle.event.specs.declared.counts.Counts.{Counts}
use Rattle.format.specs.declared.kinds.ObjectKind.{ObjectKind}
use Rattle.format.specs.declared.kinds.SectionKind.{SectionKind}
use Rattle.format.specs.declared.fault.ByteFault.{ByteFault}
use Rattle.format.specs.declared.fault.ByteFault.TheVariants.{Ends}
use Rattle.format.specs.declared.fault.SectionFault.{SectionFault}
use Rattle.format.specs.declared.fault.SectionFault.TheVariants.{Bytes, Count, Left}
use Rattle.format.specs.declared.fault.EventFault.TheVariants.{Sections}
use Rattle.format.specs.declared.fault.OrderFault.TheVariants.{Events}
use Rattle.format.specs.Parse.{here, two_from, four_from}
use Rattle.format.specs.Names.{within}
use Rattle.format.specs.Items.{Item, items_from, section_body, section_from}
use Rattle.format.specs.Codes.{two, code_item}
use Rattle.format.specs.Layout.{sized, block_body, block_from}
use Rattle.format.specs.Encode.{AllBytes}
use Rattle.format.specs.Refusals.{EntryFault, InSection, count_cut, count_out, in_entry, InEvents, cut, left}
use Rattle.format.proofs.Steps.{ok_err, err_err, lift_then_err, either_err}
use Rattle.format.proofs.Inverse.{within_true, two_size, two_sound, four_size, four_sound}
use Rattle.format.proofs.EntryFaults.{entries_fault}

within_false : (low high n : ℕ) → within low high n ≡ false → (n < low) ⊎ (high < n)
within_false low high n h = go (leb low n) (leb n high) refl refl h
  where
    go : (a b : Bool) → leb low n ≡ a → leb n high ≡ b → cond a b false ≡ false → (n < low) ⊎ (high < n)
    go true true p q h = let z : ◌≡◌ {A = ℕ} 0 1 = cc in absurd (omega arith)
    go true false p q h = inr (leb-false n high q)
    go false b p q h = inl (leb-false low n p)

-- a number of `size` bytes that is not there
number_cut : {X : Type 0} (size p : ℕ) (bs : List ℕ) (x : X) (e : ByteFault) → cond (leb size (length bs)) (Ok x) (Err (Ends p)) ≡ Err e → (length bs < size) × (Ends p ≡ e)
number_cut {X} size p bs x e h =
    ⊎_elim (λ t. ok_err x e t.1) (λ f. (leb-false size (length bs) f.0, err_err {X = X} (Ends p) e f.1)) (either_err (leb size (length bs)) (Ok x) (Err (Ends p)) e h)

pub section_fault : (k : SectionKind) (low high t : ℕ) (bs : List ℕ) (f : SectionFault) → length bs ≤ t → AllBytes bs → section_from k low high t bs ≡ Err f → InSection k low high (here t bs) bs f
section_fault k low high t bs f le bytes h =
    let p = here t bs in
    ⊎_elim
    (λ c.
    let n = number_cut 2 p bs (256 * get_or bs 0 0 + get_or bs 1 0, drop 2 bs) c.0 c.1 in
    subst (InSection k low high p bs) (ap Bytes n.1 ∙ c.2) (count_cut n.0))
    (λ s.
    let x = s.0 in
    let size = two_size p bs x s.1 in
    let code = two_sound p bs x bytes s.1 in
    ⊎_elim
    (λ i.
    let w = within_true low high x.0 i.0 in
    let u = entries_fault k t x.0 x.1 f (omega arith) i.1 in
    let at : here t x.1 + length (flat_map code_item u.entries) ≡ here t bs + 2 + length (flat_map code_item u.entries) = omega arith in
    in_entry x.0 u.entries u.more (code ∙ ap (λ l. two x.0 ++ l) u.bytes) w.0 w.1 u.good u.fewer (subst (λ q. EntryFault k q u.more f) at u.fault))
    (λ o. subst (InSection k low high p bs) (err_err {X = List Item × List ℕ} (Count p) f o.1) (count_out x.0 x.1 code (within_false low high x.0 o.0)))
    (either_err (within low high x.0) (items_from k t x.0 x.1) (Err (Count p)) f s.2))
    (lift_then_err Bytes (two_from p bs) (section_body k low high t p) f h)

pub block_fault : (c : Counts) (kinds : ℕ → ObjectKind) (t : ℕ) (bs : List ℕ) (f : SectionFault) → length bs ≤ t → AllBytes bs → block_from t bs ≡ Err f → InEvents c kinds (here t bs) bs (Events (Sections f))
block_fault c kinds t bs f le bytes h =
    let p = here t bs in
    let Fault : SectionFault → Type 0 = λ g. InEvents c kinds p bs (Events (Sections g)) in
    ⊎_elim
    (λ c.
    let n = number_cut 4 p bs (16777216 * get_or bs 0 0 + 65536 * get_or bs 1 0 + 256 * get_or bs 2 0 + get_or bs 3 0, drop 4 bs) c.0 c.1 in
    subst Fault (ap Bytes n.1 ∙ c.2) (count_cut n.0))
    (λ s.
    let x = s.0 in
    let n = x.0 in
    let l = x.1 in
    let size = four_size p bs x s.1 in
    let code = four_sound p bs x bytes s.1 in
    let at : here t l ≡ here t bs + 4 = omega arith in
    ⊎_elim
    (λ i.
    let w = within_true 0 1000000 n i.0 in
    ⊎_elim
    (λ m. subst Fault (ap (λ q. Bytes (Ends (q + 6 * (length l / 6)))) (sym at) ∙ err_err {X = ℕ × List ℕ} (Bytes (Ends (here t l + 6 * (length l / 6)))) f m.1) (cut n l code w.1 (ltb-true (length l) (6 * n) m.0)))
    (λ m.
    ⊎_elim
    (λ r. subst Fault (ap (λ q. Left (q + 6 * n)) (sym at) ∙ err_err {X = ℕ × List ℕ} (Left (here t l + 6 * n)) f r.1) (left n l code w.1 (ltb-true (6 * n) (length l) r.0)))
    (λ r. ok_err (n, l) f r.1)
    (either_err (ltb (6 * n) (length l)) (Err (Left (here t l + 6 * n))) (Ok (n, l)) f m.1))
    (either_err (ltb (length l) (6 * n)) (Err (Bytes (Ends (here t l + 6 * (length l / 6))))) (cond (ltb (6 * n) (length l)) (Err (Left (here t l + 6 * n))) (Ok (n, l))) f i.1))
    (λ o. subst Fault (err_err {X = ℕ × List ℕ} (Count p) f o.1) (count_out n l code (⊎_elim (λ z. absurd (omega arith)) (λ z. z) (within_false 0 1000000 n o.0))))
    (either_err (within 0 1000000 n) (sized t n l) (Err (Count p)) f s.2))
    (lift_then_err Bytes (four_from p bs) (block_body t p) f h)

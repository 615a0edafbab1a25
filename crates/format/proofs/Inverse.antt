-- What was read is what the code of it says.
use Rattle.std.proofs.Common.{◌≡◌, ℕ, zero, suc, ◌+◌, ◌*◌, ◌/◌, ◌%◌, ◌<◌, ◌≤◌, true, false, cond, eqb, leb, List, [], ◌∷◌, ◌++◌, length, get_or, take, drop, Ok, Err, sym, refl, ap, ◌∙◌, subst, ⊎_elim, append_assoc, arith, length-append, w8, Fits}
use Rattle.std.specs.List.{flat_map, AllByRecursion}
use Rattle.std.proofs.lemmas.List.{take-append-drop, length-take-le, length-drop}
use Rattle.std.proofs.lemmas.Bool.{leb-true, le-leb, eqb-true}
use Rattle.format.specs.declared.fault.SectionFault.TheVariants.{Bytes, Entry, Count}
use Rattle.format.specs.declared.fault.ByteFault.TheVariants.{Ends}
use Rattle.format.specs.declared.kinds.SectionKind.{SectionKind}
use Rattle.format.specs.declared.kinds.SectionKind.TheVariants.{Threads, Objects, Variables}
use Rattle.format.specs.declared.kinds.ObjectKind.{ObjectKind}
use Rattle.format.specs.declared.kinds.ObjectKind.TheVariants.{Mutex, Semaphore}
use Rattle.format.specs.Parse.{map_ok, lift, here, byte_from, take_from, two_from, four_from}
use Rattle.format.specs.Names.{within, all_good_bytes, name_body, name_from}
use Rattle.format.specs.Items.{Item, thread, object, variable, named, object_body, item_from, items_from, cons_item, section_body, section_from}
use Rattle.format.specs.Codes.{two, four, code_name, code_kind, code_item, code_section}
use Rattle.format.specs.Encode.{GoodName, Good, AllBytes}
use Rattle.format.proofs.Steps.{err_ok, ok_ok, then_ok, lift_ok, map_ok_parts, if_ok, lift_then_ok, either_ok}

pub within_true : (low high n : ℕ) → within low high n ≡ true → (low ≤ n) × (n ≤ high)
within_true low high n h = (grind (arith, leb-true low n, leb-true n high), grind (arith, leb-true low n, leb-true n high))

pub within_from : (low high n : ℕ) → low ≤ n → n ≤ high → within low high n ≡ true
within_from low high n p q = (λ i. cond (le-leb low n p i) (leb n high) false) ∙ le-leb n high q

pub every_rest : {X : Type 0} (P : X → Type 0) (xs ys : List X) → AllByRecursion P (xs ++ ys) → AllByRecursion P ys
every_rest P [] ys h = h
every_rest P (x ∷ xs) ys h = every_rest P xs ys h.1

pub byte_sound : (p : ℕ) (bs : List ℕ) (x : ℕ × List ℕ) → byte_from p bs ≡ Ok x → bs ≡ x.0 ∷ x.1
byte_sound p [] x h = err_ok _ x h
byte_sound p (b ∷ bs) x h = ap (λ y. y.0 ∷ y.1) (ok_ok (b, bs) x h)

pub take_sound : (p n : ℕ) (bs : List ℕ) (x : List ℕ × List ℕ) → take_from p n bs ≡ Ok x → (length x.0 ≡ n) × (take n bs ≡ x.0) × (bs ≡ x.0 ++ x.1)
take_sound p n bs x h =
    let t = if_ok (leb n (length bs)) (Ok (take n bs, drop n bs)) (Ends p) x h in
    let e = ok_ok (take n bs, drop n bs) x t.1 in (
      sym (ap (λ y. length y.0) e) ∙ length-take-le n bs (leb-true n (length bs) t.0),
      ap (λ y. y.0) e,
      sym (take-append-drop n bs) ∙ ap (λ y. y.0 ++ y.1) e,
    )

pub name_sound : (p : ℕ) (bs : List ℕ) (y : List ℕ × List ℕ) → name_from p bs ≡ Ok y → GoodName y.0 × (bs ≡ code_name y.0 ++ y.1)
name_sound p bs y h =
    let a = lift_then_ok Bytes (byte_from p bs) (name_body p) y h in
    let x = a.0 in
    let b = if_ok (within 1 31 x.0) (cond (all_good_bytes (take x.0 x.1)) (lift Bytes (take_from p x.0 x.1)) (Err (Entry p))) (Entry p) y a.2 in
    let c = if_ok (all_good_bytes (take x.0 x.1)) (lift Bytes (take_from p x.0 x.1)) (Entry p) y b.1 in
    let d = take_sound p x.0 x.1 y (lift_ok Bytes (take_from p x.0 x.1) y c.1) in
    let w = within_true 1 31 x.0 b.0 in (
      (omega (arith, d.0, w.0), omega (arith, d.0, w.1), sym (ap all_good_bytes d.1) ∙ c.0),
      byte_sound p bs x a.1 ∙ (λ i. sym d.0 i ∷ d.2 i),
    )

named_sound : (f : List ℕ → Item) (p : ℕ) (bs : List ℕ) (y : Item × List ℕ) → named f p bs ≡ Ok y → (ns : List ℕ) × (f ns ≡ y.0) × GoodName ns × (bs ≡ code_name ns ++ y.1)
named_sound f p bs y h =
    let a = map_ok_parts (λ (x : List ℕ × List ℕ). (f x.0, x.1)) (name_from p bs) y h in
    let x = a.0 in
    let n = name_sound p bs x a.1 in
    (x.0, ap (λ z. z.0) a.2, n.0, n.1 ∙ ap (λ z. code_name x.0 ++ z.1) a.2)

object_sound : (p n : ℕ) (k : ObjectKind) (bs : List ℕ) (x : ℕ × List ℕ) (y : Item × List ℕ) → code_kind k ≡ n → bs ≡ x.0 ∷ x.1 → eqb x.0 n ≡ true → named (object k) p x.1 ≡ Ok y → Good Objects y.0 × (bs ≡ code_item y.0 ++ y.1)
object_sound p n k bs x y q e t h =
    let a = named_sound (object k) p x.1 y h in
    subst (λ i. Good Objects i × (bs ≡ code_item i ++ y.1)) a.1 (a.2, e ∙ (λ i. (eqb-true x.0 n t ∙ sym q) i ∷ a.3 i))

pub item_sound : (k : SectionKind) (p : ℕ) (bs : List ℕ) (y : Item × List ℕ) → item_from k p bs ≡ Ok y → Good k y.0 × (bs ≡ code_item y.0 ++ y.1)
item_sound Threads p bs y h =
    let a = named_sound thread p bs y h in
    subst (λ i. Good Threads i × (bs ≡ code_item i ++ y.1)) a.1 (a.2, a.3)
item_sound Variables p bs y h =
    let a = named_sound variable p bs y h in
    subst (λ i. Good Variables i × (bs ≡ code_item i ++ y.1)) a.1 (a.2, a.3)
item_sound Objects p bs y h =
    let a = lift_then_ok Bytes (byte_from p bs) (object_body p) y h in
    let x = a.0 in
    let e = byte_sound p bs x a.1 in
    ⊎_elim
    (λ m. object_sound p 109 Mutex bs x y refl e m.0 m.1)
    (λ m. let s = if_ok (eqb x.0 115) (named (object Semaphore) p x.1) (Entry p) y m.1 in object_sound p 115 Semaphore bs x y refl e s.0 s.1)
    (either_ok (eqb x.0 109) (named (object Mutex) p x.1) (cond (eqb x.0 115) (named (object Semaphore) p x.1) (Err (Entry p))) y a.2)

pub items_sound : (k : SectionKind) (t n : ℕ) (bs : List ℕ) (y : List Item × List ℕ) → items_from k t n bs ≡ Ok y → (length y.0 ≡ n) × AllByRecursion (Good k) y.0 × (bs ≡ flat_map code_item y.0 ++ y.1)
items_sound k t zero bs y h = subst (λ z. (length z.0 ≡ 0) × AllByRecursion (Good k) z.0 × (bs ≡ flat_map code_item z.0 ++ z.1)) (ok_ok ([], bs) y h) (refl, tt, refl)
items_sound k t (suc n) bs y h =
    let a = then_ok (item_from k (here t bs) bs) (λ x. map_ok (cons_item x.0) (items_from k t n x.1)) y h in
    let x = a.0 in
    let b = map_ok_parts (cons_item x.0) (items_from k t n x.1) y a.2 in
    let z = b.0 in
    let one = item_sound k (here t bs) bs x a.1 in
    let more = items_sound k t n x.1 z b.1 in
    subst (λ z. (length z.0 ≡ suc n) × AllByRecursion (Good k) z.0 × (bs ≡ flat_map code_item z.0 ++ z.1)) b.2
    (ap suc more.0, (one.0, more.1), one.1 ∙ ap (λ l. code_item x.0 ++ l) more.2 ∙ sym (append_assoc (code_item x.0) (flat_map code_item z.0) z.1))

pub two_digits : (a b : ℕ) → b < 256 → a ∷ b ∷ [] ≡ two (256 * a + b)
two_digits a b h =
    let q : a ≡ (256 * a + b) / 256 = omega arith in
    let r : b ≡ (256 * a + b) % 256 = omega arith in
    λ i. q i ∷ r i ∷ []

pub two_sound : (p : ℕ) (bs : List ℕ) (x : ℕ × List ℕ) → AllBytes bs → two_from p bs ≡ Ok x → bs ≡ two x.0 ++ x.1
two_sound p [] x k h = err_ok _ x h
two_sound p (a ∷ []) x k h = err_ok _ x h
two_sound p (a ∷ b ∷ bs) x k h =
    let t = if_ok (leb 2 (length (a ∷ b ∷ bs))) (Ok (256 * a + b, bs)) (Ends p) x h in
    ap (λ l. l ++ bs) (two_digits a b k.1.0) ∙ ap (λ z. two z.0 ++ z.1) (ok_ok (256 * a + b, bs) x t.1)

four_digits : (a b c d : ℕ) → b < 256 → c < 256 → d < 256 → a ∷ b ∷ c ∷ d ∷ [] ≡ four (16777216 * a + 65536 * b + 256 * c + d)
four_digits a b c d hb hc hd =
    let n = 16777216 * a + 65536 * b + 256 * c + d in
    let q : a ≡ (16777216 * a + 65536 * b + 256 * c + d) / 16777216 = omega arith in
    let r : b ≡ (16777216 * a + 65536 * b + 256 * c + d) / 65536 % 256 = omega arith in
    let s : c ≡ (16777216 * a + 65536 * b + 256 * c + d) / 256 % 256 = omega arith in
    let u : d ≡ (16777216 * a + 65536 * b + 256 * c + d) % 256 = omega arith in
    λ i. q i ∷ r i ∷ s i ∷ u i ∷ []

pub four_size : (p : ℕ) (bs : List ℕ) (x : ℕ × List ℕ) → four_from p bs ≡ Ok x → length bs ≡ 4 + length x.1
four_size p bs x h =
    let t = if_ok (leb 4 (length bs)) (Ok (16777216 * get_or bs 0 0 + 65536 * get_or bs 1 0 + 256 * get_or bs 2 0 + get_or bs 3 0, drop 4 bs)) (Ends p) x h in
    let n = leb-true 4 (length bs) t.0 in
    let e : length (drop 4 bs) ≡ length x.1 = ap (λ (z : ℕ × List ℕ). length z.1) (ok_ok (16777216 * get_or bs 0 0 + 65536 * get_or bs 1 0 + 256 * get_or bs 2 0 + get_or bs 3 0, drop 4 bs) x t.1) in
    omega (arith, length-drop 4 bs)

pub four_sound : (p : ℕ) (bs : List ℕ) (x : ℕ × List ℕ) → AllBytes bs → four_from p bs ≡ Ok x → bs ≡ four x.0 ++ x.1
four_sound p [] x k h = err_ok _ x h
four_sound p (a ∷ []) x k h = err_ok _ x h
four_sound p (a ∷ b ∷ []) x k h = err_ok _ x h
four_sound p (a ∷ b ∷ c ∷ []) x k h = err_ok _ x h
four_sound p (a ∷ b ∷ c ∷ d ∷ bs) x k h =
    let n = 16777216 * a + 65536 * b + 256 * c + d in
    let t = if_ok (leb 4 (length (a ∷ b ∷ c ∷ d ∷ bs))) (Ok (n, bs)) (Ends p) x h in
    ap (λ l. l ++ bs) (four_digits a b c d k.1.0 k.1.1.0 k.1.1.1.0) ∙ ap (λ z. four z.0 ++ z.1) (ok_ok (n, bs) x t.1)

-- a count of two bytes, that many entries, and what is left
pub section_parts : (k : SectionKind) (low high t : ℕ) (bs : List ℕ) (y : List Item × List ℕ) → section_from k low high t bs ≡ Ok y → (x : ℕ × List ℕ) × (two_from (here t bs) bs ≡ Ok x) × (within low high x.0 ≡ true) × (items_from k t x.0 x.1 ≡ Ok y)
section_parts k low high t bs y h =
    let a = lift_then_ok Bytes (two_from (here t bs) bs) (section_body k low high t (here t bs)) y h in
    let b = if_ok (within low high a.0.0) (items_from k t a.0.0 a.0.1) (Count (here t bs)) y a.2 in
    (a.0, a.1, b.0, b.1)

pub two_size : (p : ℕ) (bs : List ℕ) (x : ℕ × List ℕ) → two_from p bs ≡ Ok x → length bs ≡ 2 + length x.1
two_size p [] x h = err_ok _ x h
two_size p (a ∷ []) x h = err_ok _ x h
two_size p (a ∷ b ∷ bs) x h =
    let t = if_ok (leb 2 (length (a ∷ b ∷ bs))) (Ok (256 * a + b, bs)) (Ends p) x h in
    let e : length bs ≡ length x.1 = ap (λ z. length z.1) (ok_ok (256 * a + b, bs) x t.1) in
    omega arith

-- how many bytes a section takes
pub section_size : (k : SectionKind) (low high t : ℕ) (bs : List ℕ) (y : List Item × List ℕ) → section_from k low high t bs ≡ Ok y → length bs ≡ 2 + length (flat_map code_item y.0) + length y.1
section_size k low high t bs y h =
    let a = section_parts k low high t bs y h in
    let is = items_sound k t a.0.0 a.0.1 y a.3 in
    let n = two_size (here t bs) bs a.0 a.1 in
    let m : length a.0.1 ≡ length (flat_map code_item y.0) + length y.1 = ap length is.2 ∙ length-append (flat_map code_item y.0) y.1 in
    omega arith

pub section_sound : (k : SectionKind) (low high t : ℕ) (bs : List ℕ) (y : List Item × List ℕ) → AllBytes bs → section_from k low high t bs ≡ Ok y → (low ≤ length y.0) × (length y.0 ≤ high) × AllByRecursion (Good k) y.0 × (bs ≡ code_section y.0 ++ y.1)
section_sound k low high t bs y bytes h =
    let a = section_parts k low high t bs y h in
    let x = a.0 in
    let w = within_true low high x.0 a.2 in
    let is = items_sound k t x.0 x.1 y a.3 in (
      omega (arith, w.0, is.0),
      omega (arith, w.1, is.0),
      is.1,
      two_sound (here t bs) bs x bytes a.1 ∙ (λ i. two (sym is.0 i) ++ is.2 i) ∙ sym (append_assoc (two (length y.0)) (flat_map code_item y.0) y.1),
    )

-- what the type of the bytes says
pub all_bytes : (bs : List ℕ) → ((i : ℕ) → Fits w8 (get_or bs i 0)) → AllBytes bs
all_bytes [] h = tt
all_bytes (b ∷ bs) h = ((h 0).fits, all_bytes bs (λ i. h (suc i)))

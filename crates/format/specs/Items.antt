-- What a section holds: its entries, as the bytes spell them.
use Rattle.std.specs.Prelude.{ℕ, zero, suc, cond, List, [], ◌∷◌, Ok, Err, Result, ◌==◌}
use Rattle.format.specs.declared.fault.SectionFault.{SectionFault}
use Rattle.format.specs.declared.fault.SectionFault.TheVariants.{Bytes, Entry as Bad, Count}
use Rattle.format.specs.declared.kinds.SectionKind.{SectionKind}
use Rattle.format.specs.declared.kinds.SectionKind.TheVariants.{Threads, Objects, Variables}
use Rattle.format.specs.declared.kinds.ObjectKind.{ObjectKind}
use Rattle.format.specs.declared.kinds.ObjectKind.TheVariants.{Mutex, Semaphore}
use Rattle.format.specs.Parse.{map_ok, lift, and_then, here, byte_from, two_from}
use Rattle.format.specs.Names.{within, name_from}

pub data Item : Type 0 where
  thread : List ℕ → Item
  object : ObjectKind → List ℕ → Item
  variable : List ℕ → Item

abbrev pub named : (List ℕ → Item) → ℕ → List ℕ → Result (Item × List ℕ) SectionFault
named f p bs = map_ok (λ x. (f x.0, x.1)) (name_from p bs)

abbrev pub object_body : ℕ → (ℕ × List ℕ) → Result (Item × List ℕ) SectionFault
object_body p x = cond (x.0 == 109) (named (object Mutex) p x.1) (cond (x.0 == 115) (named (object Semaphore) p x.1) (Err (Bad p)))

-- the entry that begins at p
abbrev pub item_from : SectionKind → ℕ → List ℕ → Result (Item × List ℕ) SectionFault
item_from Threads p bs = named thread p bs
item_from Objects p bs = and_then (lift Bytes (byte_from p bs)) (object_body p)
item_from Variables p bs = named variable p bs

abbrev pub cons_item : Item → (List Item × List ℕ) → (List Item × List ℕ)
cons_item i y = (i ∷ y.0, y.1)

-- n entries, in a file of t bytes
abbrev pub items_from : SectionKind → ℕ → ℕ → List ℕ → Result (List Item × List ℕ) SectionFault
items_from k t zero bs = Ok ([], bs)
items_from k t (suc n) bs = and_then (item_from k (here t bs) bs) (λ x. map_ok (cons_item x.0) (items_from k t n x.1))

abbrev pub after : Result (List Item × List ℕ) SectionFault → Result (List ℕ) SectionFault
after r = map_ok (λ y. y.1) r

abbrev pub laid_next : ℕ → Result (Item × List ℕ) SectionFault → (List ℕ → List (ℕ × Item)) → List (ℕ × Item)
laid_next p (Ok x) f = (p, x.0) ∷ f x.1
laid_next p (Err e) f = []

-- the entries of n, up to a fault, each with its offset in a file of t bytes
abbrev pub laid_from : SectionKind → ℕ → ℕ → List ℕ → List (ℕ × Item)
laid_from k t zero bs = []
laid_from k t (suc n) bs = laid_next (here t bs) (item_from k (here t bs) bs) (laid_from k t n)

-- a count within its limits, and that many entries
abbrev pub section_body : SectionKind → ℕ → ℕ → ℕ → ℕ → (ℕ × List ℕ) → Result (List Item × List ℕ) SectionFault
section_body k low high t p x = cond (within low high x.0) (items_from k t x.0 x.1) (Err (Count p))

abbrev pub section_from : SectionKind → ℕ → ℕ → ℕ → List ℕ → Result (List Item × List ℕ) SectionFault
section_from k low high t bs = and_then (lift Bytes (two_from (here t bs) bs)) (section_body k low high t (here t bs))

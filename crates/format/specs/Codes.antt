-- The bytes of names, entries, events and numbers. The high byte of a number stands first.
use Rattle.std.specs.Prelude.{ℕ, ◌+◌, ◌/◌, ◌%◌, List, [], ◌∷◌, ◌++◌, length}
use Rattle.std.specs.List.{flat_map}
pub use Rattle.event.specs.Letters.{code as code_letter}
use Rattle.event.specs.declared.record.Event.{Event}
use Rattle.format.specs.declared.kinds.ObjectKind.{ObjectKind}
use Rattle.format.specs.declared.kinds.ObjectKind.TheVariants.{Mutex, Semaphore}
use Rattle.format.specs.Items.{Item, thread, object, variable}

abbrev pub two : ℕ → List ℕ
two n = n / 256 ∷ n % 256 ∷ []

abbrev pub four : ℕ → List ℕ
four n = n / 16777216 ∷ n / 65536 % 256 ∷ n / 256 % 256 ∷ n % 256 ∷ []

abbrev pub code_name : List ℕ → List ℕ
code_name n = length n ∷ n

-- `m` and `s`
abbrev pub code_kind : ObjectKind → ℕ
code_kind Mutex = 109
code_kind Semaphore = 115

abbrev pub code_item : Item → List ℕ
code_item (thread n) = code_name n
code_item (object k n) = code_kind k ∷ code_name n
code_item (variable n) = code_name n

abbrev pub code_section : List Item → List ℕ
code_section is = two (length is) ++ flat_map code_item is

-- the entries, each with the offset at which it begins, where the first begins at p and each follows the one before
abbrev pub items_laid_out : ℕ → List Item → List (ℕ × Item)
items_laid_out p [] = []
items_laid_out p (i ∷ is) = (p, i) ∷ items_laid_out (p + length (code_item i)) is

abbrev pub code_event : Event → List ℕ
code_event e = code_letter e.letter ∷ e.thread ∷ (two e.number ++ two e.region)

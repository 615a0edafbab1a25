-- What a section that was read stands for.
use Rattle.std.specs.Prelude.{ℕ, List, map, length, max}
use Rattle.format.specs.declared.kinds.SectionKind.{SectionKind}
use Rattle.format.specs.declared.kinds.SectionKind.TheVariants.{Threads, Objects, Variables}
use Rattle.trace.specs.declared.section.Section.{Section}
use Rattle.format.specs.Items.{Item, laid_from}

-- its entries, each with the offset at which it begins
abbrev pub laid_in : Section → List (ℕ × Item)
laid_in s = laid_from s.kind (max s.total (length s.bytes.now)) s.count s.bytes.now

abbrev pub items_in : Section → List Item
items_in s = map (λ y. y.1) (laid_in s)

-- how many entries a section of each kind can have: the fewest
abbrev pub fewest : SectionKind → ℕ
fewest Threads = 1
fewest Objects = 0
fewest Variables = 0

-- and the most
abbrev pub most : SectionKind → ℕ
most Threads = 16
most Objects = 512
most Variables = 256

-- The entries of a section, handed out one by one.
use Rattle.std.specs.Prelude.{◌≡◌, ℕ, List, [], ◌∷◌, Some, None, Option}
use Rattle.trace.specs.declared.entry.Entry.{Entry}
use Rattle.trace.specs.declared.entries.Entries.{Entries}
use Rattle.format.specs.Items.{Item, laid_from}
use Rattle.trace.specs.Spots.{spot_of}

-- what is still to come
abbrev pub shown : Entries → List (ℕ × Item)
shown s = laid_from s.kind s.reader.total s.left s.reader.rest.now

-- the next entry, which is then gone, or none if there is none: then none comes later either
abbrev pub Stepped : Entries → Option Entry → Entries → Type 0
Stepped s None t = (shown s ≡ []) × (shown t ≡ [])
Stepped s (Some e) t = shown s ≡ spot_of e ∷ shown t

-- What an entry that borrows from the file stands for, and where it begins.
use Rattle.std.specs.Prelude.{ℕ}
use Rattle.format.specs.Items.{Item, thread, object, variable}
use Rattle.trace.specs.declared.entry.Entry.{Entry}
use Rattle.trace.specs.declared.entry.Entry.TheVariants.{Thread, Object, Variable}

abbrev pub item_of : Entry → Item
item_of (Thread n p) = thread n.now
item_of (Object k n p) = object k n.now
item_of (Variable n p) = variable n.now

abbrev pub place_of : Entry → ℕ
place_of (Thread n p) = p
place_of (Object k n p) = p
place_of (Variable n p) = p

-- an entry with the offset at which it begins
abbrev pub spot_of : Entry → ℕ × Item
spot_of e = (place_of e, item_of e)

-- The byte of each kind of object in a trace file.
use Rattle.std.specs.Prelude.{◌≡◌, ℕ, cond, Some, None, Option, Result, ok_or, ◌==◌}
use Rattle.format.specs.declared.kinds.ObjectKind.{ObjectKind}
use Rattle.format.specs.declared.kinds.ObjectKind.TheVariants.{Mutex, Semaphore}
use Rattle.format.specs.declared.kinds.UnknownKind.{UnknownKind}

-- the kind that a byte stands for
abbrev pub kind_by : ℕ → Option ObjectKind
kind_by b = cond (b == 109) (Some Mutex) (cond (b == 115) (Some Semaphore) None)

-- what a byte is taken for
abbrev pub SpellsKind : ℕ → Result ObjectKind UnknownKind → Type 0
SpellsKind b r = r ≡ ok_or (kind_by b) (record { byte = b })

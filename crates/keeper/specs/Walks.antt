-- A walk backwards over a list of events: the threads and objects that it has met.
use Rattle.std.specs.Prelude.{◌≡◌, ℕ, ◌<◌, Bool, true, false, ◌||◌, List, replicate, Some, None, Option, slice_index_or, slice_set}
use Rattle.std.specs.Option.{option_map}
use Rattle.event.specs.declared.counts.Counts.{Counts}
use Rattle.event.specs.declared.record.Event.{Event}
use Rattle.event.specs.Entries.{IsEntry}
use Rattle.event.specs.Objects.{released}
use Rattle.event.specs.Thins.{Sound}
use Rattle.stamp.specs.Slots.{slot}

abbrev pub flagged : List Bool → Option ℕ → Bool
flagged flags None = false
flagged flags (Some k) = slice_index_or flags k false

abbrev pub flag : List Bool → Option ℕ → List Bool
flag flags None = flags
flag flags (Some k) = slice_set flags k true

-- the event is of a thread that was met, or releases an object that was acquired
abbrev pub leads : Counts → List Bool → List Bool → Event → Bool
leads c threads objects e = slice_index_or threads e.thread false || flagged objects (option_map (slot c) (released e))

-- n is the entry of t for u
abbrev pub WalksTo : Counts → List Event → ℕ → ℕ → ℕ → Type 0
WalksTo c es t u n = Sound c es → t < c.threads → u < c.threads → IsEntry es t u n

-- the same, from flags that are all down
abbrev pub WalksFrom : Counts → List Event → List Bool → List Bool → ℕ → ℕ → ℕ → Type 0
WalksFrom c es threads objects t u n = threads ≡ replicate 16 false → objects ≡ replicate 544 false → WalksTo c es t u n

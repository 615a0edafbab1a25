-- The sections of a file, and the bytes of its events.
use Rattle.std.specs.Prelude.{ℕ, ◌+◌, ◌*◌, ◌/◌, Bool, false, cond, List, length, Ok, Err, Result, ◌==◌, nat_lt, slice_index}
use Rattle.std.specs.List.{flat_map}
use Rattle.format.specs.declared.fault.ByteFault.{ByteFault}
use Rattle.format.specs.declared.fault.ByteFault.TheVariants.{Ends, Magic}
use Rattle.format.specs.declared.fault.SectionFault.{SectionFault}
use Rattle.format.specs.declared.fault.SectionFault.TheVariants.{Bytes, Count, Left}
use Rattle.format.specs.declared.kinds.SectionKind.TheVariants.{Threads, Objects, Variables}
use Rattle.format.specs.Parse.{map_ok, lift, and_then, here, take_from, four_from}
use Rattle.format.specs.Names.{within}
use Rattle.format.specs.Items.{Item, section_from}
use Rattle.format.specs.Codes.{code_item}

abbrev pub is_magic : List ℕ → Bool
is_magic xs = cond (slice_index xs 0 == 84) (cond (slice_index xs 1 == 67) (slice_index xs 2 == 1) false) false

abbrev pub magic_body : (List ℕ × List ℕ) → Result (List ℕ) ByteFault
magic_body x = cond (is_magic x.0) (Ok x.1) (Err Magic)

abbrev pub magic_from : List ℕ → Result (List ℕ) ByteFault
magic_from bs = and_then (take_from 0 3 bs) magic_body

-- the bytes of n events are there, and none after them
abbrev pub sized : ℕ → ℕ → List ℕ → Result (ℕ × List ℕ) SectionFault
sized t n bs =
    cond (nat_lt (length bs) (6 * n)) (Err (Bytes (Ends (here t bs + 6 * (length bs / 6)))))
    (cond (nat_lt (6 * n) (length bs)) (Err (Left (here t bs + 6 * n))) (Ok (n, bs)))

abbrev pub block_body : ℕ → ℕ → (ℕ × List ℕ) → Result (ℕ × List ℕ) SectionFault
block_body t p x = cond (within 0 1000000 x.0) (sized t x.0 x.1) (Err (Count p))

-- the count of the events, and their bytes
abbrev pub block_from : ℕ → List ℕ → Result (ℕ × List ℕ) SectionFault
block_from t bs = and_then (lift Bytes (four_from (here t bs) bs)) (block_body t (here t bs))

pub record Layout : Type 0 where
  pub threads : List Item
  pub objects : List Item
  pub variables : List Item
  pub count : ℕ
  pub block : List ℕ

abbrev pub laid_as : List Item → List Item → List Item → (ℕ × List ℕ) → Layout
laid_as ts os vs x = record { threads = ts; objects = os; variables = vs; count = x.0; block = x.1 }

abbrev pub with_variables : ℕ → List Item → List Item → (List Item × List ℕ) → Result Layout SectionFault
with_variables t ts os x = map_ok (laid_as ts os x.0) (block_from t x.1)

abbrev pub with_objects : ℕ → List Item → (List Item × List ℕ) → Result Layout SectionFault
with_objects t ts x = and_then (section_from Variables 0 256 t x.1) (with_variables t ts x.0)

abbrev pub with_threads : ℕ → (List Item × List ℕ) → Result Layout SectionFault
with_threads t x = and_then (section_from Objects 0 512 t x.1) (with_objects t x.0)

abbrev pub with_magic : ℕ → List ℕ → Result Layout SectionFault
with_magic t bs = and_then (section_from Threads 1 16 t bs) (with_threads t)

abbrev pub layout : List ℕ → Result Layout SectionFault
layout bs = and_then (lift Bytes (magic_from bs)) (with_magic (length bs))

abbrev pub size : List Item → ℕ
size is = length (flat_map code_item is)

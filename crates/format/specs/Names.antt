-- Names and entries.
use Rattle.std.specs.Prelude.{ℕ, Bool, true, false, cond, List, [], ◌∷◌, take, Err, Result, nat_le}
use Rattle.format.specs.declared.fault.SectionFault.{SectionFault}
use Rattle.format.specs.declared.fault.SectionFault.TheVariants.{Bytes, Entry}
use Rattle.format.specs.Parse.{lift, and_then, byte_from, take_from}

abbrev pub within : ℕ → ℕ → ℕ → Bool
within low high n = cond (nat_le low n) (nat_le n high) false

abbrev pub all_good_bytes : List ℕ → Bool
all_good_bytes [] = true
all_good_bytes (b ∷ bs) = cond (within 33 126 b) (all_good_bytes bs) false

-- the name of the entry that begins at p
abbrev pub name_body : ℕ → (ℕ × List ℕ) → Result (List ℕ × List ℕ) SectionFault
name_body p x = cond (within 1 31 x.0) (cond (all_good_bytes (take x.0 x.1)) (lift Bytes (take_from p x.0 x.1)) (Err (Entry p))) (Err (Entry p))

abbrev pub name_from : ℕ → List ℕ → Result (List ℕ × List ℕ) SectionFault
name_from p bs = and_then (lift Bytes (byte_from p bs)) (name_body p)

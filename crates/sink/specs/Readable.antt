-- What can be read back from a line.
use Rattle.std.specs.Prelude.{◌≡◌, ℕ, ◌<◌, ◌≤◌, List, length}
use Rattle.std.specs.Str.Parse.{IsNumeral, digits_value}
use Rattle.std.specs.List.{between}
use Rattle.sink.specs.declared.pair.Pair.{Pair}
use Rattle.sink.specs.Line.{line, letters, space, newline}

-- the bytes from a place up to another are decimal digits, and write the number
pub record Writes (from to : ℕ) (l : List ℕ) (n : ℕ) : Type 0 where
  pub digits : IsNumeral 10 (between from to l)
  pub reads : digits_value 10 (between from to l) ≡ n

-- a line of 21 bytes, from which the pair's places, variable and letters are read
pub record Reads (l : List ℕ) (p : Pair) : Type 0 where
  pub wide : length l ≡ 21
  pub earlier : Writes 0 6 l p.earlier.place
  pub later : Writes 7 13 l p.later.place
  pub variable : Writes 14 17 l p.earlier.number
  pub accesses : between 18 20 l ≡ letters p.earlier.letter p.later.letter
  pub spaces : (between 6 7 l ≡ space) × (between 13 14 l ≡ space) × (between 17 18 l ≡ space)
  pub end : between 20 21 l ≡ newline

-- A line is read back, where the places are ones that a trace can have and the variable is one of 256.
abbrev pub ALineReadsBack : Type 0
ALineReadsBack = (p : Pair) → p.earlier.place ≤ 999999 → p.later.place ≤ 999999 → p.earlier.number < 256 → Reads (line p) p

-- The line of a pair: both places, the variable and both letters.
use Rattle.std.specs.Prelude.{ℕ, ◌+◌, ◌*◌, ◌/◌, ◌%◌, List, [], ◌∷◌, ◌++◌, take, drop}
use Rattle.event.specs.declared.letter.Letter.{Letter}
use Rattle.event.specs.Letters.{code}
use Rattle.sink.specs.declared.pair.Pair.{Pair}

-- the byte of the number's last decimal digit
abbrev pub digit : ℕ → ℕ
digit n = n % 10 + 48

-- the last three digits
abbrev pub three : ℕ → List ℕ
three n = digit (n / 100) ∷ digit (n / 10) ∷ digit n ∷ []

-- the last six digits
abbrev pub six : ℕ → List ℕ
six n = digit (n / 100000) ∷ digit (n / 10000) ∷ digit (n / 1000) ∷ three n

abbrev pub space : List ℕ
space = 32 ∷ []

abbrev pub newline : List ℕ
newline = 10 ∷ []

abbrev pub letters : Letter → Letter → List ℕ
letters a b = code a ∷ code b ∷ []

-- `000003 000005 000 wr` and a newline
abbrev pub line : Pair → List ℕ
line p = six p.earlier.place ++ space ++ six p.later.place ++ space ++ three p.earlier.number ++ space ++ letters p.earlier.letter p.later.letter ++ newline

-- the bytes with the pair's line behind n others: all else is as it was
abbrev pub overwritten : ℕ → Pair → List ℕ → List ℕ
overwritten n p bytes = take (n * 21) bytes ++ (line p ++ drop (n * 21 + 21) bytes)

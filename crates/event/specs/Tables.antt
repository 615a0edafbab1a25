-- Tables that a caller lends.
use Rattle.std.specs.Prelude.{ℕ, min, List, ◌++◌, length, drop, replicate}

-- the first n entries are x, the others stay
abbrev pub cleared : {S : Type 0} → ℕ → S → List S → List S
cleared n x xs = replicate (min n (length xs)) x ++ drop n xs

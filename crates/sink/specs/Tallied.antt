-- What a tally keeps: 256 counters, one for each variable.
use Rattle.std.specs.Prelude.{ℕ, ◌+◌, ◌%◌, List, slice_index, slice_set}
use Rattle.sink.specs.declared.pair.Pair.{Pair}

-- how many pairs a tally can take
abbrev pub most : ℕ
most = 4294967295

-- the counter of a pair: that of its variable, where the variable is one of 256
abbrev pub counter : Pair → ℕ
counter p = p.earlier.number % 256

-- one more for the pair's variable
abbrev pub one_more : List ℕ → Pair → List ℕ
one_more counters p = slice_set counters (counter p) (slice_index counters (counter p) + 1)

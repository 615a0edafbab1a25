-- What the sinks' records are after many pairs, the first of them first.
use Rattle.std.specs.Prelude.{◌≡◌, ℕ, ◌+◌, ◌*◌, ◌<◌, cond, fold, List, [], ◌∷◌, ◌++◌, length, drop, ◌==◌, slice_index}
use Rattle.std.specs.List.{flat_map, AllByRecursion}
use Rattle.sink.specs.declared.pair.Pair.{Pair}
use Rattle.sink.specs.Line.{line}
use Rattle.sink.specs.Written.{Written, with_line}
use Rattle.sink.specs.Tallied.{one_more}

-- The lines of the pairs follow those that were there, one for each, and the space behind them is as it was.
abbrev pub LinesFollow : Type 0
LinesFollow = (w : Written) (ps : List Pair) → fold with_line w ps ≡ record {
  lender = w.lender;
  lines = w.lines ++ flat_map line ps;
  space = drop (length ps * 21) w.space;
}

-- how many of the pairs are of the variable
abbrev pub times : ℕ → List Pair → ℕ
times v [] = 0
times v (p ∷ ps) = cond (p.earlier.number == v) (1 + times v ps) (times v ps)

-- Of pairs of the 256 variables, each counter counts those of its own.
abbrev pub CountersCount : Type 0
CountersCount = (counters : List ℕ) (ps : List Pair) (v : ℕ) → length counters ≡ 256 → v < 256 → AllByRecursion (λ p. p.earlier.number < 256) ps
    → slice_index (fold one_more counters ps) v ≡ slice_index counters v + times v ps

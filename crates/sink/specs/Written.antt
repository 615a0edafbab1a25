-- What lines keep: the lines that are written, and the space behind them.
use Rattle.std.specs.Prelude.{ℕ, ◌*◌, ◌/◌, List, [], ◌++◌, length, take, drop}
use Rattle.sink.specs.declared.lines.Lines.{Lines}
use Rattle.sink.specs.declared.pair.Pair.{Pair}
use Rattle.sink.specs.Line.{line}

-- The lent bytes are the lines and then the space. The lender is the name under which they were lent, which stays, so that who lent them knows
-- them afterwards.
pub record Written : Type 0 where
  pub lender : ℕ
  pub lines : List ℕ
  pub space : List ℕ

-- bytes as they are lent: no line, all of them space
abbrev pub lent : ℕ → List ℕ → Written
lent n bytes = record { lender = n; lines = []; space = bytes }

-- one line more, and as much less space
abbrev pub with_line : Written → Pair → Written
with_line w p = record { lender = w.lender; lines = w.lines ++ line p; space = drop 21 w.space }

-- how many lines the bytes have room for
abbrev pub room : Lines → ℕ
room s = length s.bytes.now / 21

abbrev pub written : Lines → Written
written s = record {
  lender = s.bytes.ghost_name;
  lines = take (s.taken * 21) s.bytes.now;
  space = drop (s.taken * 21) s.bytes.now;
}

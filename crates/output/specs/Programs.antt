-- What a program does with its input.
use Rattle.std.specs.Prelude.{◌≡◌, ℕ, Bool, not, List, Option}
use Rattle.std.specs.Io.KnownBytes.{Appends}
use Rattle.format.specs.Trace.{Contents}
use Rattle.output.specs.Inputs.{Answers}
use Rattle.output.specs.Words.{Said}

-- The text of an answer to the bytes is written behind what the output holds, where that is known, and nothing else is. It is a list unless the
-- input was refused.
pub record Responds (lists : Contents → Said → Type 0) (bytes : List ℕ) (before after : Option (List ℕ)) (listed : Bool) : Type 0 where
  pub answer : Said
  pub answers : Answers lists bytes answer
  pub written : Appends before after answer.text
  pub is_list : listed ≡ not answer.refused

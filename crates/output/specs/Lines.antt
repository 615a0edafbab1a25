-- The bytes of the lines that the programs print. 10 is the newline.
use Rattle.std.specs.Prelude.{ℕ, List, [], ◌∷◌, ◌++◌}
use Rattle.event.specs.declared.filed.Filed.{Filed}
use Rattle.event.specs.Faults.{shown}
use Rattle.detect.specs.Offers.{shown as totals_shown}

abbrev pub refusal_text : Filed → List ℕ
refusal_text f = shown f ++ 10 ∷ []

abbrev pub totals_text : ℕ → ℕ → ℕ → List ℕ
totals_text found written dropped = totals_shown (record { found = found; written = written; dropped = dropped }) ++ 10 ∷ []

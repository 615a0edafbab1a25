-- What can be said of an input.
use Rattle.std.specs.Prelude.{ℕ, Bool, true, false, List}
use Rattle.event.specs.declared.filed.Filed.{Filed}
use Rattle.output.specs.Lines.{refusal_text}

-- whether the input was refused, and the text
pub record Said : Type 0 where
  pub refused : Bool
  pub text : List ℕ

abbrev pub refusing : Filed → Said
refusing f = record { refused = true; text = refusal_text f }

abbrev pub telling : List ℕ → Said
telling text = record { refused = false; text = text }

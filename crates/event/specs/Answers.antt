-- What is said of the answer of a call.
use Rattle.std.specs.Prelude.{Result}
use Rattle.std.specs.Result.{result_map_both}

-- an answer with its value left out
abbrev pub answered : {A E : Type 0} → Result A E → Result (Unit {0}) E
answered r = result_map_both (λ _. tt) (λ f. f) r

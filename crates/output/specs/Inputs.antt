-- What a program answers to its input.
use Rattle.std.specs.Prelude.{◌≡◌, ℕ, Bool, true, false, List, length, Ok, Err, Result, nat_lt}
use Rattle.event.specs.declared.fault.CallerFault.TheVariants.{Table}
use Rattle.event.specs.Faults.{caller_filed}
use Rattle.format.specs.declared.fault.OrderFault.{OrderFault}
use Rattle.format.specs.Filed.{order_filed}
use Rattle.format.specs.Trace.{Contents, read_trace}
use Rattle.output.specs.Words.{Said, refusing}

-- an input that is too long is refused, then a file that is no trace file; any other is answered by its contents
abbrev pub AnswersBy : (Contents → Said → Type 0) → Bool → Result Contents OrderFault → Said → Type 0
AnswersBy answer true r s = s ≡ refusing (caller_filed (Table 65537))
AnswersBy answer false (Err f) s = s ≡ refusing (order_filed f)
AnswersBy answer false (Ok c) s = answer c s

abbrev pub Answers : (Contents → Said → Type 0) → List ℕ → Said → Type 0
Answers answer bs s = AnswersBy answer (nat_lt 65536 (length bs)) (read_trace bs) s

-- What an answer of the reader says of a file's bytes.
use Rattle.std.specs.Prelude.{◌≡◌, ℕ, List, Ok, Err, Result, ◌≢◌}
use Rattle.format.specs.declared.fault.OrderFault.{OrderFault}
use Rattle.format.specs.Trace.{Contents, read_trace}
use Rattle.format.specs.Encode.{encode, Lawful, AllBytes}
use Rattle.format.specs.Refusals.{FirstFault}

-- the bytes are the encoding of these lawful contents
pub record Accepted (bs : List ℕ) (c : Contents) : Type 0 where
  pub encoded : bs ≡ encode c
  pub lawful : Lawful c

-- the bytes are the encoding of no lawful contents, and this is their first fault
pub record Refused (bs : List ℕ) (f : OrderFault) : Type 0 where
  pub none : (c : Contents) → Lawful c → bs ≢ encode c
  pub first : FirstFault bs f

abbrev pub Answers : List ℕ → Result Contents OrderFault → Type 0
Answers bs (Ok c) = Accepted bs c
Answers bs (Err f) = Refused bs f

abbrev pub FilesAreReadExactly : Type 0
FilesAreReadExactly = (bs : List ℕ) → AllBytes bs → Answers bs (read_trace bs)

-- The reader accepts exactly the encodings of lawful contents, and refuses a file for its first fault.
use Rattle.std.proofs.Common.{◌≡◌, ℕ, List, Ok, Err, Result, sym, refl, ap, ◌∙◌}
use Rattle.format.specs.declared.fault.OrderFault.{OrderFault}
use Rattle.format.specs.Trace.{Contents, read_trace}
use Rattle.format.specs.Encode.{AllBytes}
use Rattle.format.specs.Exact.{Answers, FilesAreReadExactly}
use Rattle.format.proofs.Steps.{err_ok}
use Rattle.format.proofs.WholeInverse.{read_sound}
use Rattle.format.proofs.Complete.{read_complete}
use Rattle.format.proofs.FileFaults.{first_fault}

pub answers : (bs : List ℕ) (x : Result Contents OrderFault) → AllBytes bs → x ≡ read_trace bs → Answers bs x
answers bs (Ok c) k h = let r = read_sound bs c k (sym h) in record { encoded = r.0; lawful = r.1 }
answers bs (Err f) k h = record { none = λ c w q. err_ok f c (h ∙ ap read_trace q ∙ read_complete c w); first = first_fault bs f k (sym h) }

pub files_are_read_exactly_lem : FilesAreReadExactly
files_are_read_exactly_lem bs k = answers bs (read_trace bs) k refl

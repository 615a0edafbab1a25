-- Each fault's number, layer and place. Layer 6 is the caller.
use Rattle.std.specs.Prelude.{ℕ, List, ◌++◌, codes, decimal}
use Rattle.event.specs.declared.fault.CallerFault.{CallerFault}
use Rattle.event.specs.declared.filed.Filed.{Filed}
use Rattle.event.specs.declared.fault.CallerFault.TheVariants.{Counts, Range, Table, Place, Thread, Full, Sink, Sampling}

abbrev pub filed : ℕ → ℕ → ℕ → Filed
filed n l p = record { number = n; layer = l; place = p }

-- as `refused 9 layer 4 place 3`
abbrev pub shown : Filed → List ℕ
shown f = codes "refused " ++ (decimal f.number ++ (codes " layer " ++ (decimal f.layer ++ (codes " place " ++ decimal f.place))))

abbrev pub caller_filed : CallerFault → Filed
caller_filed (Counts n) = filed 3 6 n
caller_filed (Range p) = filed 7 6 p
caller_filed (Table n) = filed 12 6 n
caller_filed (Place p) = filed 13 6 p
caller_filed (Thread t) = filed 14 6 t
caller_filed (Full n) = filed 15 6 n
caller_filed (Sink n) = filed 16 6 n
caller_filed Sampling = filed 17 6 0

-- The number, layer and place of a refused placement. Layer 5 is the instrumenter.
use Rattle.event.specs.declared.filed.Filed.{Filed}
use Rattle.event.specs.Faults.{filed, caller_filed}
use Rattle.monitor.specs.declared.fault.PlacementFault.{PlacementFault}
use Rattle.monitor.specs.declared.fault.PlacementFault.TheVariants.{Caller, Uncovered}

abbrev pub placement_filed : PlacementFault → Filed
placement_filed (Caller f) = caller_filed f
placement_filed (Uncovered k) = filed 11 5 k

-- The number, the layer and the place of each fault of a file.
use Rattle.event.specs.declared.filed.Filed.{Filed}
use Rattle.event.specs.Faults.{filed}
use Rattle.format.specs.declared.fault.ByteFault.{ByteFault}
use Rattle.format.specs.declared.fault.ByteFault.TheVariants.{Ends, Magic}
use Rattle.format.specs.declared.fault.SectionFault.{SectionFault}
use Rattle.format.specs.declared.fault.SectionFault.TheVariants.{Bytes, Count, Entry, Left}
use Rattle.format.specs.declared.fault.EventFault.{EventFault}
use Rattle.format.specs.declared.fault.EventFault.TheVariants.{Sections, Letter, Range, Region}
use Rattle.format.specs.declared.fault.OrderFault.{OrderFault}
use Rattle.format.specs.declared.fault.OrderFault.TheVariants.{Events, Mutex, Life}

abbrev pub byte_filed : ByteFault → Filed
byte_filed (Ends p) = filed 1 1 p
byte_filed Magic = filed 2 1 0

abbrev pub section_filed : SectionFault → Filed
section_filed (Bytes b) = byte_filed b
section_filed (Count p) = filed 3 2 p
section_filed (Entry p) = filed 4 2 p
section_filed (Left p) = filed 5 2 p

abbrev pub event_filed : EventFault → Filed
event_filed (Sections s) = section_filed s
event_filed (Letter i) = filed 6 3 i
event_filed (Range i) = filed 7 3 i
event_filed (Region i) = filed 8 3 i

abbrev pub order_filed : OrderFault → Filed
order_filed (Events e) = event_filed e
order_filed (Mutex i) = filed 9 4 i
order_filed (Life i) = filed 10 4 i

-- What the program `monitors` answers to its input.
use Rattle.std.specs.Prelude.{◌≡◌, ℕ, Bool, true, false, ◌↔◌, List, map, length, Some, None, Option, nat_lt}
use mathlib.Core.List.{Memᴰ}
use Rattle.event.specs.declared.counts.Counts.{Counts}
use Rattle.event.specs.declared.fault.CallerFault.TheVariants.{Full}
use Rattle.event.specs.declared.record.Event.{Event}
use Rattle.event.specs.Faults.{caller_filed}
use Rattle.event.specs.Order.{Race}
use Rattle.format.specs.Trace.{Contents, declared_counts}
use Rattle.monitor.specs.declared.fault.PlacementFault.TheVariants.{Uncovered}
use Rattle.monitor.specs.Faults.{placement_filed}
use Rattle.monitor.specs.Overlaps.{Overlap, Overlaps, InOrder}
use Rattle.monitor.specs.Placement.{WellPlaced, LowestUncovered, lowest}
use Rattle.output.specs.Inputs.{Answers}
use Rattle.output.specs.Races.{report}
use Rattle.output.specs.Words.{Said, refusing}

-- the monitors are placed rightly, and the text lists their overlaps: each once, in order, and each a race
pub record OverlapsListed (c : Counts) (L : List Event) (s : Said) : Type 0 where
  pub accepted : s.refused ≡ false
  pub placed : WellPlaced L
  pub overlaps : List Overlap
  pub exactly : (x : Overlap) → Memᴰ x overlaps ↔ Overlaps c L x
  pub in_order : InOrder overlaps
  pub racing : (x : Overlap) → Memᴰ x overlaps → Race L x.two.0 x.two.1
  pub printed : s.text ≡ report (map (λ (x : Overlap). x.two) overlaps)

-- refused is the lowest uncovered moment, where there is one
abbrev pub ByPlacement : Counts → List Event → Option ℕ → Said → Type 0
ByPlacement c L (Some k) s = LowestUncovered L k × (s ≡ refusing (placement_filed (Uncovered k)))
ByPlacement c L None s = OverlapsListed c L s

-- more than 4,096 events are refused before that
abbrev pub ByEvents : Counts → List Event → Bool → Said → Type 0
ByEvents c L true s = s ≡ refusing (caller_filed (Full 4096))
ByEvents c L false s = ByPlacement c L (lowest c L) s

-- the counts of a trace file's contents
abbrev pub counts_of : Contents → Counts
counts_of c = declared_counts c.threads c.objects c.variables

-- what may be said of the contents of a trace file: a refusal, or the overlaps
abbrev pub ByContents : Contents → Said → Type 0
ByContents c = ByEvents (counts_of c) c.events (nat_lt 4096 (length c.events))

-- what the program answers: a refusal, or the overlaps
abbrev pub AnswersMonitors : List ℕ → Said → Type 0
AnswersMonitors = Answers ByContents

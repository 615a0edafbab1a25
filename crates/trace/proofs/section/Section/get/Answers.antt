use Rattle.std.proofs.Common.{length, ap, ◌∙◌}
use Rattle.std.specs.List.{slice_get}
use Rattle.std.proofs.lemmas.Iterator.Consumers.{nth_from_yields_List, YieldsList-from_shown}
use Rattle.trace.specs.Spots.{spot_of}
use Rattle.trace.specs.Entries.{shown, Stepped}
use Rattle.trace.proofs.section.Section.get.Goals as goal

pub returns : goal.returns
returns c =
    nth_from_yields_List {steps = Stepped} c.nth.result c.nth.new.self c.args.index c.nth.ensures.ran (YieldsList-from_shown Stepped spot_of shown (λ s t h. ap length h.0) (λ s x t h. h) c.entries.result)
    ∙ ap (λ l. slice_get l c.args.index) c.entries.ensures

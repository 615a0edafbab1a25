use Rattle.monitor.proofs.Spans.{region_span, span_region}
use Rattle.monitor.proofs.theorems.regions_are_spans.Goals as goal

pub returns : goal.returns
returns c = λ L t p k lp lk a. (region_span L t p k lp lk a, λ h. span_region L t p k lp lk h.0 h.1)

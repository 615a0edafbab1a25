-- What a report of the overlaps of monitors does.
use Rattle.std.specs.Prelude.{◌≡◌, ℕ, ◌+◌, ◌-◌, ◌<◌, cond, ◌↔◌, List, [], map, Some, None, Option, ◌≢◌}
use mathlib.Core.List.{Memᴰ}
use Rattle.event.specs.declared.counts.Counts.{Counts}
use Rattle.event.specs.declared.record.Event.{Event}
use Rattle.event.specs.Order.{Race}
use Rattle.order.specs.Runs.{Two, Reported}
use Rattle.sink.specs.declared.sink.Sink.{Ghosts as Sinking}
use Rattle.monitor.specs.declared.level.Level.{Level}
use Rattle.monitor.specs.Overlaps.{event_at, just_after, Rises, Meet, Overlap, Overlaps, InOrder, gathered, named, raises}
use Rattle.detect.specs.Pairs.{pair_of}
use Rattle.detect.specs.Reports.{if_conflicting}
use Rattle.detect.specs.declared.totals.Totals.{Totals}

-- what is offered where two accesses may be named
abbrev pub if_named : Option Two → List Two
if_named None = []
if_named (Some w) = if_conflicting w.0 w.1

-- what the event at i and the n first threads name, in rising order, with the levels of the moment just after the event
abbrev pub named_by : Counts → List Event → ℕ → List Level → ℕ → List Two
named_by c L i levels n = gathered 0 n (λ u. if_named (named c L i u levels))

-- the same, if the event raises the level of its thread from the one table to the other
abbrev pub if_raised : Counts → List Event → ℕ → List Level → List Level → List Two
if_raised c L i levels levels' = cond (raises c (event_at L i) levels levels') (named_by c L i levels' c.threads) []

-- The law of a report over a list of events whose monitors are placed rightly, and a sink before and after it.
pub record Reports {O : Type 0} (o : Sinking O) (c : Counts) (L : List Event) (sink sink' : O) (t : Totals) : Type 0 where
  -- the overlaps, each once and in order
  pub overlaps : List Overlap
  pub exactly : (x : Overlap) → Memᴰ x overlaps ↔ Overlaps c L x
  pub in_order : InOrder overlaps
  -- each names two accesses that race
  pub racing : (x : Overlap) → Memᴰ x overlaps → Race L x.two.0 x.two.1
  -- each rise that meets the level of another thread is among them
  pub complete : (i u : ℕ) → Rises L i → u < c.threads → (u ≢ (event_at L i).thread) → Meet (just_after L i (event_at L i).thread) (just_after L i u) →
      (w : Two) × Memᴰ (record { rise = i; other = u; two = w }) overlaps
  -- The sink took the first ones, as many as it had room for, each with a step of its record; the others were dropped, for it was full as each was
  -- offered.
  pub reported : Reported (λ l p. o.step l (pair_of p)) (o.capacity sink - o.taken sink) (o.log sink) (o.log sink') (map (λ (x : Overlap). x.two) overlaps) t.found t.written t.dropped
  pub taken : o.taken sink' ≡ o.taken sink + t.written
  pub sink_capacity : o.capacity sink' ≡ o.capacity sink

-- What each keeper may have been told.
use Rattle.std.specs.Prelude.{◌≡◌, ℕ, ◌≤◌, List, length, take, None, Option}
use Rattle.event.specs.declared.counts.Counts.{Counts}
use Rattle.event.specs.declared.record.Event.{Event}
use Rattle.event.specs.declared.intake.Intake.{Intake}
use Rattle.event.specs.Intakes.{Took}
use Rattle.event.specs.Ranges.{nearest}
use Rattle.order.specs.Stamps.{deeds}
use Rattle.stamp.specs.declared.clock.Clock.{Clock}
use Rattle.stamp.specs.Clocks.{NoLater, zeros, tick}
use Rattle.stamp.specs.Slots.{slots, lacking}
use Rattle.stamp.specs.Tables.{Means}
use Rattle.keeper.specs.declared.clocks.Clocks.{Clocks}
use Rattle.keeper.specs.declared.walk.Walk.{Walk}
use Rattle.keeper.specs.declared.plain.PlainCounts.{PlainCounts}
use Rattle.keeper.specs.Telling.{Fits}

-- the counts that a keeper holds
abbrev pub counts_of : PlainCounts → Counts
counts_of d = nearest d.threads d.objects d.variables

-- how many events the clocks can be told
abbrev pub many : ℕ
many = 1000000

-- clocks that were told es: the tables mean its events, each with its tick
pub record Clocked (c : Counts) (k : Intake) (ts os : List Clock) (es : List Event) : Type 0 where
  pub fits : Fits c many es
  pub took : Took k es
  pub threads_fit : c.threads ≤ length ts
  pub objects_fit : slots c ≤ length os
  pub stamps : Means NoLater zeros c (deeds tick es) ts os

-- a lent list whose first events are es, as many as were told
pub record Walked (c : Counts) (k : Intake) (events : List Event) (es : List Event) : Type 0 where
  pub fits : Fits c (length events) es
  pub took : Took k es
  pub front : es ≡ take k.taken events

-- the clocks' meaning
abbrev pub clocks_counts : Clocks → Counts
clocks_counts k = counts_of k.plain

abbrev pub clocks_capacity : Clocks → ℕ
clocks_capacity k = many

abbrev pub clocks_lacks : Clocks → Counts → Option ℕ
clocks_lacks k c = lacking c (length k.threads.now) (length k.objects.now)

abbrev pub clocks_told : Clocks → List Event → Type 0
clocks_told k es = Clocked (clocks_counts k) k.told k.threads.now k.objects.now es

-- the walk's meaning: no table of it depends on the counts
abbrev pub walk_counts : Walk → Counts
walk_counts k = counts_of k.plain

abbrev pub walk_capacity : Walk → ℕ
walk_capacity k = length k.events.now

abbrev pub walk_lacks : Walk → Counts → Option ℕ
walk_lacks k c = None

abbrev pub walk_told : Walk → List Event → Type 0
walk_told k es = Walked (walk_counts k) k.told k.events.now es

-- The worked examples, evaluated on the definitions that the contracts cite.
use Rattle.std.specs.Prelude.{◌≡◌, ℕ, List, [], ◌∷◌, map, Some, None, Ok, codes, count_ones}
use Rattle.event.specs.declared.counts.Counts.{Counts}
use Rattle.event.specs.declared.record.Event.{Event}
use Rattle.event.specs.Ranges.{nearest}
use Rattle.format.specs.declared.kinds.ObjectKind.TheVariants.{Mutex}
use Rattle.format.specs.Items.{thread, object, variable}
use Rattle.format.specs.Trace.{contents, read_trace}
use Rattle.order.specs.Marks.{entry}
use Rattle.order.specs.Runs.{Two}
use Rattle.order.specs.Stamps.{deeds, run, fresh}
use Rattle.stamp.specs.Reaching.{union, nobody, visit}
use Rattle.source.specs.Sampled.{sampled}
use Rattle.finds.specs.Found.{found_all}
use Rattle.monitor.specs.Overlaps.{reported}
use Rattle.monitor.specs.Placement.{lowest}
use Rattle.cases.specs.Examples.{setpoint, before_the_fork, after_the_fork, two_reads, two_givers, two_readers, two_monitors, acquire_then_release, release_then_acquire}

-- the 88 bytes of examples/setpoint.trace
abbrev pub setpoint_file : List ℕ
setpoint_file = 84 ∷ 67 ∷ 1 ∷ 0 ∷ 2 ∷ 3 ∷ 99 ∷ 121 ∷ 99 ∷ 3 ∷ 112 ∷ 97 ∷ 114 ∷ 0 ∷ 1 ∷ 109 ∷ 1 ∷ 109 ∷ 0 ∷ 1 ∷ 3 ∷ 115 ∷ 101 ∷ 116 ∷ 0 ∷ 0 ∷ 0 ∷ 10 ∷ 102 ∷ 0 ∷ 0 ∷ 1 ∷ 0 ∷ 0 ∷ 98 ∷ 1 ∷ 0 ∷ 1 ∷ 0 ∷ 0 ∷ 97 ∷ 0 ∷ 0 ∷ 0 ∷ 0 ∷ 0 ∷ 119 ∷ 0 ∷ 0 ∷ 0 ∷ 0 ∷ 0 ∷ 108 ∷ 0 ∷ 0 ∷ 0 ∷ 0 ∷ 0 ∷ 114 ∷ 1 ∷ 0 ∷ 0 ∷ 0 ∷ 0 ∷ 97 ∷ 1 ∷ 0 ∷ 0 ∷ 0 ∷ 0 ∷ 119 ∷ 1 ∷ 0 ∷ 0 ∷ 0 ∷ 0 ∷ 108 ∷ 1 ∷ 0 ∷ 0 ∷ 0 ∷ 0 ∷ 119 ∷ 0 ∷ 0 ∷ 0 ∷ 0 ∷ 0 ∷ []

-- the places of found pairs
abbrev pub places : List Two → List (ℕ × ℕ)
places fs = map (λ p. (p.0.place, p.1.place)) fs

-- how many threads have an event with a chain to the latest one of t
abbrev pub reached : List Event → ℕ → ℕ
reached L t = count_ones ((run union (fresh nobody) (deeds visit L)).threads t).members

-- two threads, one object, one variable
abbrev pub small : Counts
small = nearest 2 1 1

pub record Worked : Type 0 where
  pub the_file_is_read : read_trace setpoint_file ≡ Ok (contents (thread (codes "cyc") ∷ thread (codes "par") ∷ []) (object Mutex (codes "m") ∷ []) (variable (codes "set") ∷ []) setpoint)
  pub three_races : places (found_all 2 setpoint) ≡ (3, 5) ∷ (7, 9) ∷ (5, 9) ∷ []
  pub the_lock_orders : entry setpoint 1 0 ≡ 5
  pub nothing_comes_back : entry setpoint 0 1 ≡ 0
  pub two_are_reached : reached setpoint 1 ≡ 2
  pub sampling_keeps_one : places (found_all 2 (sampled 1 2 setpoint)) ≡ (3, 5) ∷ []
  pub the_fork_orders : found_all 2 before_the_fork ≡ []
  pub after_it_they_race : places (found_all 2 after_the_fork) ≡ (2, 3) ∷ []
  pub reads_do_not_race : found_all 2 two_reads ≡ []
  pub no_events_no_races : found_all 2 [] ≡ []
  pub both_givers_count : found_all 3 two_givers ≡ []
  pub each_reader_races : places (found_all 3 two_readers) ≡ (4, 5) ∷ (4, 6) ∷ []
  pub monitors_meet : places (reported small two_monitors) ≡ (3, 5) ∷ []
  pub the_regions_meet : lowest small acquire_then_release ≡ None
  pub a_moment_is_bare : lowest small release_then_acquire ≡ Some 3

-- What the list of findings is in the words of the order of events.
use Rattle.std.specs.Prelude.{List, ◌++◌}
use Rattle.event.specs.declared.counts.Counts.{Counts}
use Rattle.event.specs.declared.record.Event.{Event}
use Rattle.event.specs.Thins.{Sound, Thins}
use Rattle.order.specs.Runs.{Lists}
use Rattle.finds.specs.Found.{found_all}

-- Of a source's list T was told and M was not: the list has exactly the pairs of told accesses that race in any whole list of which the source's is
-- a thinning, with no told access of the earlier one's kind between them.
abbrev pub TheFindingsAreTheRaces : Type 0
TheFindingsAreTheRaces = (c : Counts) (W T M : List Event) → Sound c (T ++ M) → Thins W (T ++ M) → Lists W T (found_all c.threads T)

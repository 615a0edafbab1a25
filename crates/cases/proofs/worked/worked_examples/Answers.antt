use Rattle.std.proofs.Common.{refl}
use lib.Count.{ones}
use Rattle.finds.specs.Found.{against_below}
use Rattle.cases.proofs.worked.worked_examples.Goals as goal

pub returns : goal.returns
unfolding against_below ones
returns c = record {
  the_file_is_read = refl;
  three_races = refl;
  the_lock_orders = refl;
  nothing_comes_back = refl;
  two_are_reached = refl;
  sampling_keeps_one = refl;
  the_fork_orders = refl;
  after_it_they_race = refl;
  reads_do_not_race = refl;
  no_events_no_races = refl;
  both_givers_count = refl;
  each_reader_races = refl;
  monitors_meet = refl;
  the_regions_meet = refl;
  a_moment_is_bare = refl;
}

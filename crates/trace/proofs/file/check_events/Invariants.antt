use Rattle.std.proofs.Common.{◌≡◌, ◌-◌, ◌*◌, ◌/◌, length, drop}
use Rattle.format.specs.Standings.{ruled_from}
use Rattle.trace.specs.Standing.{standing_of, kinds_in}
use Rattle.format.proofs.Checks.{verdict}
use Rattle.trace.proofs.file.check_events.Given as goal

-- the verdict on the events that are left is that on all
abbrev pub invariant-loop-place : goal.invariant-loop-place
invariant-loop-place l = record {
  counts : l.rules.counts ≡ l.initial.rules.counts;
  kinds : (kinds_in l.rules) ≡ (kinds_in l.initial.rules);
  left :
      verdict (ruled_from (kinds_in l.rules) l.rules.counts (standing_of l.rules) l.place (length l.events / 6 - l.place) (drop (6 * l.place) l.events))
      ≡ verdict (ruled_from (kinds_in l.initial.rules) l.initial.rules.counts (standing_of l.initial.rules) 0 (length l.events / 6) l.events);
}

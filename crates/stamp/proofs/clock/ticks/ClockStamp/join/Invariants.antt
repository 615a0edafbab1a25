use Rattle.std.proofs.Common.{◌≡◌, ℕ, ◌<◌, ◌≤◌, max, get_or}
use Rattle.stamp.proofs.clock.ticks.ClockStamp.join.Given as goal

abbrev pub invariant-loop-i : goal.invariant-loop-i
invariant-loop-i l = record {
  joined : (k : ℕ) → k < l.i → get_or l.entry-items k 0 ≡ max (get_or l.fn.self.entries k 0) (get_or l.other.entries k 0);
  own : (k : ℕ) → l.i ≤ k → get_or l.entry-items k 0 ≡ get_or l.fn.self.entries k 0;
}

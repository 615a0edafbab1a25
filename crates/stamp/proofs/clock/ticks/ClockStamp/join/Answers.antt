use Rattle.std.proofs.Common.{◌<◌, ◌≢◌, length, arith, le_refl, get_or-set_other, get_or-set_same, below_more}
use Rattle.stamp.specs.ClocksLemmas.{is_later}
use Rattle.stamp.proofs.clock.ticks.ClockStamp.join.Goals as goal

pub loop-i-preserved : goal.loop-i-preserved
loop-i-preserved c = record {
  joined =
      below_more _ _
      (λ k h. let ne : k ≢ c.loop-i.i = omega arith in rw get_or-set_other (c.loop-i.invariant.joined k h))
      (let lt : c.loop-i.i < length c.loop-i.entry-items = omega arith in
      let own = c.loop-i.invariant.own c.loop-i.i (le_refl _) in
      rw get_or-set_same (omega (arith, own)));
  own = λ k h. let ne : k ≢ c.loop-i.i = omega arith in rw get_or-set_other (c.loop-i.invariant.own k (omega arith));
}

pub returns : goal.returns
returns c = is_later _ c.args.self c.args.other (λ k h. c.loop-i.invariant.joined k (omega arith))

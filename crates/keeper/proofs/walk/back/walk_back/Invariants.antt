use Rattle.std.proofs.Common.{◌≡◌, ◌<◌, ◌++◌, true, false, length, drop, set, replicate}
use Rattle.std.specs.Iterator.Adapters.{rev_source}
use Rattle.std.specs.Slice.Iter.{iter_rest}
use Rattle.event.specs.Thins.{Sound}
use Rattle.keeper.proofs.Walking.{Met}
use Rattle.keeper.proofs.walk.back.walk_back.Given as goal

abbrev pub invariant-loop-e : goal.invariant-loop-e
invariant-loop-e l =
    let ahead = iter_rest (rev_source l.e-iterator) in
    record {
      split : l.told ≡ ahead ++ drop (length ahead) l.told;
      met :
          l.initial.threads ≡ set (replicate 16 false) l.t true → l.initial.objects ≡ replicate 544 false →
          Sound l.counts l.told → l.t < l.counts.threads → l.u < l.counts.threads → Met l.counts l.told l.t l.u (length ahead) l.threads l.objects;
    }

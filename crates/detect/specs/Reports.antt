-- What a run reports at an access.
use Rattle.std.specs.Prelude.{◌≡◌, ℕ, cond, List, [], ◌∷◌, ◌++◌, Some, None, Option, nat_le}
use Rattle.event.specs.declared.record.Event.{Event}
use Rattle.event.specs.Thins.{Sound}
use Rattle.order.specs.Runs.{Two}
use Rattle.keeper.specs.declared.keeper.Keeper.{Ghosts as Keeping}
use Rattle.sink.specs.declared.sink.Sink.{Ghosts as Sinking}
use Rattle.source.specs.declared.source.Source.{Ghosts as Giving}
use Rattle.detect.specs.Offers.{OffersTo}
use Rattle.detect.specs.Pairs.{conflicting}
use Rattle.detect.specs.Table.{Holds}
use Rattle.detect.specs.declared.run.Run.{Run}

-- the two events, if they can be a finding
abbrev pub if_conflicting : Event → Event → List Two
if_conflicting i j = cond (conflicting i j) ((i, j) ∷ []) []

-- j against an access, unless that is among the places below `known`
abbrev pub unless_below : ℕ → Event → Option Event → List Two
unless_below known j None = []
unless_below known j (Some i) = cond (nat_le known i.place) (if_conflicting i j) []

module _ {S K O : Type 0} where
  -- findings were offered to the run's sink
  abbrev pub Offers : Sinking O → Run S K O → List Two → Run S K O → Type 0
  Offers o was fs is = OffersTo o was.sink.now was.totals fs is.sink.now is.totals

  -- nothing but what the sink means and the totals is another
  pub record Aside (o : Sinking O) (was is : Run S K O) : Type 0 where
    pub source : is.source ≡ was.source
    pub keeper : is.keeper ≡ was.keeper
    pub latest : is.latest ≡ was.latest
    pub lender : is.sink.ghost_name ≡ was.sink.ghost_name
    pub capacity : o.capacity is.sink.now ≡ o.capacity was.sink.now
    pub ended : is.ended ≡ was.ended

  -- the run was told T and then j, and its table has the latest accesses among T
  pub record Ready (s : Giving S) (k : Keeping K) (run : Run S K O) (T : List Event) (j : Event) : Type 0 where
    pub told : k.told run.keeper.now (T ++ j ∷ [])
    pub counts : k.counts run.keeper.now ≡ s.counts run.source.now
    pub holds : Holds (s.counts run.source.now) T run.latest.now
    pub sound : Sound (s.counts run.source.now) (T ++ j ∷ [])

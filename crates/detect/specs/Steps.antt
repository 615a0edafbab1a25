-- What a step of a run does.
use Rattle.std.specs.Prelude.{◌≡◌, true, false, List, [], ◌∷◌, ◌++◌, length, drop}
use Rattle.event.specs.declared.counts.Counts.{Counts}
use Rattle.event.specs.declared.fault.CallerFault.TheVariants.{Full}
use Rattle.event.specs.declared.record.Event.{Event}
use Rattle.event.specs.Thins.{Sound}
use Rattle.finds.specs.Found.{found_at}
use Rattle.keeper.specs.declared.keeper.Keeper.{Ghosts as Keeping}
use Rattle.sink.specs.declared.sink.Sink.{Ghosts as Sinking}
use Rattle.source.specs.declared.source.Source.{Ghosts as Giving}
use Rattle.detect.specs.Reports.{Offers, Ready}
use Rattle.detect.specs.Table.{size, noted, Holds}
use Rattle.detect.specs.declared.run.Run.{Run}
use Rattle.detect.specs.declared.run.Step.{Step}
use Rattle.detect.specs.declared.run.Step.TheVariants.{Told, Ended, Refused}

module _ {S K O : Type 0} where
  abbrev pub counts_of : Giving S → Run S K O → Counts
  counts_of s run = s.counts run.source.now

  abbrev pub rest_of : Giving S → Run S K O → List Event
  rest_of s run = s.rest run.source.now

  -- the run was told T, and its table has the latest accesses among T
  pub record Going (s : Giving S) (k : Keeping K) (run : Run S K O) (T : List Event) : Type 0 where
    pub told : k.told run.keeper.now T
    pub counts : k.counts run.keeper.now ≡ counts_of s run
    pub holds : Holds (counts_of s run) T run.latest.now
    pub sound : Sound (counts_of s run) (T ++ rest_of s run)

  -- what no step changes: who lent what, the counts, the capacities, and the entries of the table that the counts do not use
  pub record Keeps (s : Giving S) (k : Keeping K) (o : Sinking O) (was is : Run S K O) : Type 0 where
    pub source_lender : is.source.ghost_name ≡ was.source.ghost_name
    pub keeper_lender : is.keeper.ghost_name ≡ was.keeper.ghost_name
    pub latest_lender : is.latest.ghost_name ≡ was.latest.ghost_name
    pub sink_lender : is.sink.ghost_name ≡ was.sink.ghost_name
    pub counts : counts_of s is ≡ counts_of s was
    pub keeper_capacity : k.capacity is.keeper.now ≡ k.capacity was.keeper.now
    pub keeper_tables : (c : Counts) → k.lacks is.keeper.now c ≡ k.lacks was.keeper.now c
    pub sink_capacity : o.capacity is.sink.now ≡ o.capacity was.sink.now
    pub spare : drop (size (counts_of s was)) is.latest.now ≡ drop (size (counts_of s was)) was.latest.now

  -- an event that was told is reported, and noted in the table
  pub record Passes (s : Giving S) (k : Keeping K) (o : Sinking O) (was is : Run S K O) (e : Event) : Type 0 where
    pub source : is.source ≡ was.source
    pub keeper : is.keeper ≡ was.keeper
    pub latest_lender : is.latest.ghost_name ≡ was.latest.ghost_name
    pub latest : is.latest.now ≡ noted (counts_of s was) was.latest.now e
    pub sink_lender : is.sink.ghost_name ≡ was.sink.ghost_name
    pub sink_capacity : o.capacity is.sink.now ≡ o.capacity was.sink.now
    pub ended : is.ended ≡ was.ended
    pub offers : (T : List Event) → Ready s k was T e → Offers o was (found_at (counts_of s was).threads T e) is

  -- the source's next event was told, and what is found at it was offered
  pub record TakesOne (s : Giving S) (k : Keeping K) (o : Sinking O) (was is : Run S K O) (e : Event) : Type 0 where
    pub rest : rest_of s was ≡ e ∷ rest_of s is
    pub going : (T : List Event) → Going s k was T → Going s k is (T ++ e ∷ [])
    pub offers : (T : List Event) → Going s k was T → Offers o was (found_at (counts_of s was).threads T e) is

  -- the run has ended, with what it had
  pub record Stops (was is : Run S K O) : Type 0 where
    pub keeper : is.keeper ≡ was.keeper
    pub latest : is.latest ≡ was.latest
    pub sink : is.sink ≡ was.sink
    pub totals : is.totals ≡ was.totals
    pub ended : is.ended ≡ true

  -- An event is told; or the run stops, since there is none, or since the keeper refuses it, which it does only where it is full. A run that has
  -- ended does nothing more.
  abbrev pub Stepped : Giving S → Keeping K → Sinking O → Run S K O → Run S K O → Step → Type 0
  Stepped s k o was is Told = (was.ended ≡ false) × (is.ended ≡ false) × ((e : Event) × TakesOne s k o was is e)
  Stepped s k o was is Ended = Stops was is × (rest_of s is ≡ rest_of s was) × (was.ended ≡ false → rest_of s was ≡ [])
  Stepped s k o was is (Refused f) =
      Stops was is × (was.ended ≡ false)
      × ((e : Event) × (rest_of s was ≡ e ∷ rest_of s is))
      × ((T : List Event) → Going s k was T → (f ≡ Full (k.capacity was.keeper.now)) × (length T ≡ k.capacity was.keeper.now))

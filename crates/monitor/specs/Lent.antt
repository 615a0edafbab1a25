-- A lent table before and after a call.
use Rattle.std.specs.Prelude.{◌≡◌, List}
use Rattle.monitor.specs.declared.level.Level.{Level}
use Rattle.monitor.specs.declared.table.Levels.{Levels}

-- it is the same table at the same counts, and has these levels
pub record LeftWith (old new : Levels) (xs : List Level) : Type 0 where
  pub counts : new.counts ≡ old.counts
  pub lent : new.table.ghost_name ≡ old.table.ghost_name
  pub levels : new.table.now ≡ xs

-- The events of a list that pass a test, which may look at the events before too.
use Rattle.std.specs.Prelude.{Bool, cond, List, [], ◌∷◌, ◌++◌}
use Rattle.event.specs.declared.record.Event.{Event}

-- what passes of a list that comes after `past`, left out or not
abbrev pub sieved : (List Event → Event → Bool) → List Event → List Event → List Event
sieved test past [] = []
sieved test past (e ∷ L) = cond (test past e) (e ∷ sieved test (past ++ e ∷ []) L) (sieved test (past ++ e ∷ []) L)

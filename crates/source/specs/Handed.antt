-- What a source hands out.
use Rattle.std.specs.Prelude.{◌≡◌, List, [], ◌∷◌, Some, None, Option}
use Rattle.event.specs.declared.record.Event.{Event}

-- the first of the events that are still to come, which is then gone, or none if there are none
abbrev pub Handed : List Event → List Event → Option Event → Type 0
Handed before after None = (before ≡ []) × (after ≡ [])
Handed before after (Some e) = before ≡ e ∷ after

-- The events of a trace, handed out one by one.
use Rattle.std.specs.Prelude.{◌≡◌, ◌/◌, List, [], ◌∷◌, length, Some, None, Option}
use Rattle.event.specs.declared.record.Event.{Event}
use Rattle.trace.specs.declared.events.Events.{Events}
use Rattle.format.specs.Events.{got_events}

-- what is still to come
abbrev pub coming : Events → List Event
coming s = got_events s.counts s.place (length s.rest.now / 6) s.rest.now

-- the next event, which is then gone, or none if there is none
abbrev pub Fed : Events → Option Event → Events → Type 0
Fed s None t = (coming s ≡ []) × (coming t ≡ []) × (t.counts ≡ s.counts)
Fed s (Some e) t = (coming s ≡ e ∷ coming t) × (t.counts ≡ s.counts)

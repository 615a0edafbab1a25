-- Why filters pile up: leaving accesses out is reflexive and transitive, and keeps a list sound.
use Rattle.std.specs.Prelude.{List}
use Rattle.event.specs.declared.counts.Counts.{Counts}
use Rattle.event.specs.declared.record.Event.{Event}
use Rattle.event.specs.Thins.{Sound, Thins}

abbrev pub ThinningIsReflexive : Type 0
ThinningIsReflexive = (L : List Event) → Thins L L

abbrev pub ThinningIsTransitive : Type 0
ThinningIsTransitive = (L M N : List Event) → Thins L M → Thins M N → Thins L N

abbrev pub ThinningKeepsSoundness : Type 0
ThinningKeepsSoundness = (c : Counts) (L M : List Event) → Thins L M → Sound c L → Sound c M

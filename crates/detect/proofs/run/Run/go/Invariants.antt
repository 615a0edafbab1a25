use Rattle.std.proofs.Common.{◌≡◌, false, []}
use Rattle.detect.specs.Steps.{Going, Keeps}
use Rattle.detect.proofs.Going.{On}
use Rattle.detect.proofs.run.Run.go.Given as goal

abbrev pub invariant-loop-turn : goal.invariant-loop-turn
invariant-loop-turn g l =
    Keeps g.S.Source g.K.Keeper g.O.Sink l.initial.self l.self
    × (Going g.S.Source g.K.Keeper l.initial.self [] → l.initial.self.ended ≡ false → On g.S.Source g.K.Keeper g.O.Sink l.initial.self l.self l._turn)

use Rattle.std.proofs.Common.{arith}
use Rattle.detect.proofs.Going.{keeps_more, on_more, goes_spent, goes_stopped}
use Rattle.detect.proofs.run.Run.go.Goals as goal

pub loop-turn-preserved : goal.loop-turn-preserved
loop-turn-preserved g c =
    let inv = c.loop-turn.invariant in
    let did = c.in-Told.ensures in (
      keeps_more inv.0 did.keeps,
      λ h e. on_more g.S.Source g.K.Keeper g.O.Sink _ _ _ _ did.did.2.0 inv.0 (inv.1 h e) did.did.1 did.did.2.1,
    )

pub returns-in_default-clause-goes : goal.returns-in_default-clause-goes
returns-in_default-clause-goes g c = λ h e.
    let inv = c.loop-turn.invariant in
    goes_stopped g.S.Source g.K.Keeper g.O.Sink _ _ _ _ inv.0 (inv.1 h e) _ c.step.result c.loop-turn-test.true c.in_default.not-Told c.step.ensures.did

pub returns-in_default-clause-keeps : goal.returns-in_default-clause-keeps
returns-in_default-clause-keeps g c = keeps_more c.loop-turn.invariant.0 c.step.ensures.keeps

pub returns-clause-goes : goal.returns-clause-goes
returns-clause-goes g c = λ h e. let inv = c.loop-turn.invariant in goes_spent g.S.Source g.K.Keeper g.O.Sink _ _ _ _ inv.0 (inv.1 h e) (omega arith)

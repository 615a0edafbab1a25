use Rattle.std.proofs.Common.{◌≡◌, ℕ, true, List}
use Rattle.event.specs.declared.record.Event.{Event}
use Rattle.event.specs.Thins.{access}
use Rattle.finds.specs.Found.{against_below}
use Rattle.detect.specs.Reports.{Offers, Aside, Ready}
use Rattle.detect.specs.declared.run.Run.{Run}
use Rattle.detect.proofs.run.Run.against_all.Given as goal

-- the run was `was`, and the threads below n are done
abbrev pub Kept : (g : goal.Over) → Run g.row.S.Denot g.row.K.Denot g.row.O.Denot → Run g.row.S.Denot g.row.K.Denot g.row.O.Denot → Event → ℕ → Type 0
Kept g was is j n =
    Aside g.O.Sink was is
    × ((T : List Event) → Ready g.S.Source g.K.Keeper was T j → access j ≡ true → Offers g.O.Sink was (against_below n T j) is)

abbrev pub invariant-loop-thread : goal.invariant-loop-thread
invariant-loop-thread g l = Kept g l.initial.self l.self l.later l.thread

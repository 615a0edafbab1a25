use Rattle.std.proofs.Common.{◌≡◌, take}
use Rattle.monitor.specs.Looks.{marks_of}
use Rattle.monitor.proofs.look.mark_all.Given as goal

abbrev pub invariant-loop-e : goal.invariant-loop-e
invariant-loop-e l = l.marks ≡ marks_of l.thread (take l.e-index l.events)

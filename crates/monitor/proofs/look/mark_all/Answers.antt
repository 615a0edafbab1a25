use Rattle.std.proofs.Common.{◌<◌, length, get_or, take, sym, ap, ◌∙◌, ap₂, arith}
use Rattle.std.proofs.lemmas.List.{take_more, take_all}
use Rattle.monitor.specs.Looks.{marks_of, raised}
use Rattle.monitor.specs.Placement.{blank}
use Rattle.monitor.proofs.Marking.{marks_none, marks_more, marks_skip}
use Rattle.monitor.proofs.look.mark_all.Goals as goal
use Rattle.monitor.proofs.look.mark_all.Goals.{then-e-thread, else-e-thread}

pub loop-e-init : goal.loop-e-init
loop-e-init c = c.requires ∙ marks_none c.args.thread

pub loop-e-preserved : goal.loop-e-preserved
loop-e-preserved c =
    let es = c.args.events.now in
    let i = c.loop-e.e-index in
    let t = c.args.thread in
    let e = get_or es i blank in
    let lt : i < length es = omega arith in
    let more = ap (marks_of t) (take_more es i blank lt) in
    elim c.if-e-thread.branch [
      | then-e-thread w ↦
          w.marks-is ∙ w.raise.ensures ∙ ap₂ (λ ms l. raised ms e.number l) c.loop-e.invariant w.worth.ensures
          ∙ marks_more t (take i es) e w.if-e-thread.true
          ∙ sym more
      | else-e-thread w ↦ w.marks-is ∙ c.loop-e.invariant ∙ marks_skip t (take i es) e w.if-e-thread.false ∙ sym more
    ]

pub returns : goal.returns
returns c =
    let es = c.args.events.now in
    c.loop-e.invariant ∙ ap (marks_of c.args.thread) (take_all c.loop-e.e-index es (omega arith))

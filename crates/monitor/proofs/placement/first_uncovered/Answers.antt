use Rattle.std.proofs.Common.{◌≡◌, ◌+◌, Some, None, sym, refl, ap, ◌∙◌, subst, arith}
use Rattle.std.proofs.lemmas.List.{take_all}
use Rattle.monitor.specs.Checks.{up_to}
use Rattle.monitor.specs.Lent.{LeftWith}
use Rattle.monitor.specs.Placement.{uncovered, lowest}
use Rattle.monitor.specs.Tables.{tabled}
use Rattle.monitor.proofs.Checking.{uncovered_none, turned_on, told_on, up_to_next, lowest_found, lowest_none}
use Rattle.monitor.proofs.placement.first_uncovered.Goals as goal

pub loop-i-init : goal.loop-i-init
loop-i-init c =
    let n = c.args.levels.now.counts in
    let es = c.args.events.now in (
      record { counts = refl; lent = refl; levels = c.requires.clear },
      λ j le. let z : j ≡ 0 = omega arith in ap (uncovered n es) z ∙ uncovered_none n es,
    )

pub loop-i-preserved : goal.loop-i-preserved
loop-i-preserved c =
    let n = c.args.levels.now.counts in
    let es = c.args.events.now in
    let i = c.loop-i.i in
    let so = c.loop-i.invariant in (
      turned_on es c.requires.sound i c.loop-i-test.true so.0 c.step.ensures,
      up_to_next n es i so.1
          (told_on es c.requires.sound i c.loop-i-test.true so.0 c.step.ensures (so.1 i (omega arith)) c.uncovered_by.ensures ∙ c.if-uncovered_by.false),
    )

pub returns-then-uncovered_by : goal.returns-then-uncovered_by
returns-then-uncovered_by c =
    let lent = c.args.levels.now in
    let es = c.args.events.now in
    let i = c.loop-i.i in
    let so = c.loop-i.invariant in
    let bare = told_on es c.requires.sound i c.loop-i-test.true so.0 c.step.ensures (so.1 i (omega arith)) c.uncovered_by.ensures ∙ c.if-uncovered_by.true in
    let found : lowest lent.counts es ≡ Some (i + 1) = lowest_found lent.counts es (i + 1) (omega arith) bare (λ j l. so.1 j (omega arith)) in
    record {
      answer = sym found;
      levels =
          subst (λ o. LeftWith lent c.step.new.self (tabled lent.counts (up_to o es) lent.table.now)) (sym found)
          (turned_on es c.requires.sound i c.loop-i-test.true so.0 c.step.ensures);
    }

pub returns : goal.returns
returns c =
    let lent = c.args.levels.now in
    let es = c.args.events.now in
    let so = c.loop-i.invariant in
    let none : lowest lent.counts es ≡ None = lowest_none lent.counts es (λ j l. so.1 j (omega arith)) in
    record {
      answer = sym none;
      levels =
          subst (λ o. LeftWith lent c.loop-i.levels (tabled lent.counts (up_to o es) lent.table.now)) (sym none)
          (subst (λ M. LeftWith lent c.loop-i.levels (tabled lent.counts M lent.table.now)) (take_all c.loop-i.i es (omega arith)) so.0);
    }

use Rattle.std.proofs.Common.{ℕ, rules, tests, get_or, ltb, ◌∙◌}
use Rattle.std.proofs.lemmas.Iterator.{YieldsList-from_range}
use Rattle.std.proofs.lemmas.Iterator.Search.{any_from_yields_List}
use Rattle.monitor.specs.declared.level.Level.TheVariants.{None as none}
use Rattle.monitor.specs.Levels.{rank}
use Rattle.monitor.specs.Tables.{slot}
use Rattle.monitor.proofs.Searching.{list_any_below}
use Rattle.monitor.proofs.look.is_row_bare.Goals as goal

pub returns : goal.returns
returns c =
    let n = c.args.levels.now.counts.variables in
    let test = λ (v : ℕ). ltb (rank (get_or c.args.marks.now v none)) (rank (get_or c.args.levels.now.table.now (slot c.args.levels.now.counts c.args.thread v) none)) in
    any_from_yields_List test _ _ c.any.result c.any.ensures.ran (YieldsList-from_range 0 n n (search rules) (search rules)) (λ x b q k. search (rules, tests)) ∙ list_any_below n test

use Rattle.std.proofs.Common.{◌≡◌, slice_index, sym, subst, arith}
use Rattle.std.proofs.lemmas.Grind.{common_steps}
use Rattle.stamp.specs.Clocks.{TellsEntry}
use Rattle.stamp.specs.ClocksLemmas.{tells_entry}
use Rattle.stamp.proofs.clock.Clock.entry.Goals as goal

pub returns-clause-entry : goal.returns-clause-entry
returns-clause-entry c =
    let value : c.unwrap_or.result ≡ slice_index c.args.self.now.entries c.args.thread = grind (arith, common_steps) in
    subst (λ n. TellsEntry c.args.self.now c.args.thread n) (sym value) (tells_entry c.args.self.now c.args.thread)

use Rattle.std.proofs.Common.{◌∙◌, rules}
use Rattle.sink.proofs.Writing.{put_line}
use Rattle.sink.proofs.lines.write.Goals as goal

pub returns : goal.returns
returns c = let text = c.copy_from_slice.ensures.after ∙ c.line.ensures in search (rules, put_line)

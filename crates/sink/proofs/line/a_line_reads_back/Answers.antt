use Rattle.sink.proofs.Reading.{line_reads_back}
use Rattle.sink.proofs.line.a_line_reads_back.Goals as goal

pub returns : goal.returns
returns c = line_reads_back

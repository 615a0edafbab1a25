use Rattle.std.proofs.Common.{ap}
use Rattle.output.specs.Said.{said}
use Rattle.output.proofs.Responding.{responded}
use Rattle.output.proofs.program.respond_or.Goals as goal

pub returns : goal.returns
returns g c =
    responded g.L.Answering.lists (g.R.Read.remaining c.args.input.now) _ _ _ _ _ _ _ (said c.in_ok-answer.answer) _ _
    (ap (λ x. g.R.Read.remaining x.now) c.take.ensures.inner) c.take.ensures.limit c.new-bytes.ensures.items
    c.in_ok-read_to_end.ensures.bytes c.deref.ensures.value c.in_ok-answer.ensures c.text.ensures c.in_ok-write_all.ensures.bytes c.is_refused.ensures

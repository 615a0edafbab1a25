use Rattle.format.proofs.Inverse.{all_bytes}
use Rattle.format.proofs.Exactness.{answers}
use Rattle.trace.proofs.Counting.{all_counted}
use Rattle.trace.proofs.file.read.Goals as goal

pub returns : goal.returns
returns c =
    let bs = c.args.bytes.now in
    let s = c.scan.ensures in
    let e = answers bs _ (all_bytes bs c.type_inv.bytes) s.value in
    record { value = s.value; exact = e; laid = s.laid; few = s.few; counted = all_counted bs c.scan.result s.laid s.events e }

use Rattle.std.proofs.Common.{◌≡◌, ◌+◌, ◌*◌, get_or, arith, rules}
use Rattle.trace.proofs.event_bytes.event.Goals as goal

pub returns : goal.returns
returns c =
    let bs = c.args.bytes.now in
    let number : c.from_be_bytes-number.result ≡ 256 * get_or bs 2 0 + get_or bs 3 0 = omega (arith, c.from_be_bytes-number.ensures) in
    let region : c.from_be_bytes-region.result ≡ 256 * get_or bs 4 0 + get_or bs 5 0 = omega (arith, c.from_be_bytes-region.ensures) in
    search rules

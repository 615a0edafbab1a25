use Rattle.std.proofs.Common.{◌≡◌, ◌/◌, ◌<◌, length, ap, ◌∙◌, arith, rules}
use Rattle.sink.proofs.Writing.{length_overwritten, line_more}
use Rattle.sink.proofs.lines.LinesSink.take.Goals as goal

pub returns : goal.returns
returns c =
    let s = c.args.self.now in
    let was = s.bytes.now in
    let fits : s.taken < length was / 21 = omega arith in
    let long : length c.write.new.bytes ≡ length was = ap length c.write.ensures ∙ length_overwritten s.taken c.args.pair was fits in
    record {
      answer = search rules;
      more = omega arith;
      stepped = rw c.write.ensures (line_more s.taken c.args.pair was fits s.bytes.ghost_name);
      kept = tt;
      same_capacity = ap (λ n. n / 21) long;
    }

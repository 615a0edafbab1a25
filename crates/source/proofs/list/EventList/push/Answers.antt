use Rattle.std.proofs.Common.{is_ok, sym, ap, rules}
use Rattle.event.proofs.Offering.{offered_room, offered_sound, offered_exactly}
use Rattle.event.proofs.Sounds.{sound_held}
use Rattle.source.specs.Listed.{listed, capacity}
use Rattle.source.proofs.list.EventList.push.Goals as goal

pub append-requires : goal.append-requires
append-requires c =
    let l = c.args.self.now in
    let took = ap is_ok (sym c.in_ok-check.ensures) in
    record {
      room = offered_room l.counts (capacity l) (listed l) c.args.e took;
      sound = offered_sound l.counts (capacity l) (listed l) c.args.e (sound_held l.counts (listed l) l.sound) took;
    }

pub returns-in_err-check-clause-exactly : goal.returns-in_err-check-clause-exactly
returns-in_err-check-clause-exactly c =
    let l = c.args.self.now in
    offered_exactly l.counts (capacity l) (listed l) c.args.e {r = c.from_residual.result} (search rules) (sound_held l.counts (listed l) l.sound)

pub returns-clause-exactly : goal.returns-clause-exactly
returns-clause-exactly c = let l = c.args.self.now in offered_exactly l.counts (capacity l) (listed l) c.args.e c.in_ok-check.ensures (sound_held l.counts (listed l) l.sound)

-- The pair that a sink is given of a finding.
use Rattle.std.specs.Prelude.{Bool, not, ◌&&◌, ◌||◌, ◌==◌, nat_le, nat_lt}
use Rattle.event.specs.declared.record.Event.{Event}
use Rattle.finds.specs.Latest.{is_write_letter}
use Rattle.order.specs.Runs.{Two}
use Rattle.sink.specs.declared.pair.Pair.{Pair}

abbrev pub pair_of : Two → Pair
pair_of p = record { earlier = p.0; later = p.1 }

-- one event comes before the other, with another thread and the same variable, and one of them writes
abbrev pub conflicting : Event → Event → Bool
conflicting i j =
    nat_lt i.place j.place
    && (nat_le j.place 999999
    && (not (i.thread == j.thread) && ((is_write_letter i.letter || is_write_letter j.letter) && (i.number == j.number && nat_lt j.number 256))))

use Rattle.std.proofs.Common.{[], ◌∷◌, ◌++◌, sym, ap, ◌∙◌, subst}
use Rattle.event.specs.declared.counts.Counts.{Counts}
use Rattle.event.specs.Thins.{Sound}
use Rattle.source.specs.Listed.{Held, listed}
use Rattle.source.proofs.Copying.{copied_room, copied_sound, copied_more}
use Rattle.source.proofs.list.EventList.append_all.Goals as goal

pub append-requires : goal.append-requires
append-requires g c =
    let s = g.S.Source in
    let all = c.args.source.now in
    let e = c.in-Some.e in
    let rest = s.rest c.next.new.self in
    let so = c.loop-e.invariant.0 in
    let came = c.in-Some.ensures.hands in
    let same = ap (λ (h : Held). h.counts) so.filled ∙ c.requires.counts in
    record {
      room = copied_room e rest so came c.requires.room;
      sound =
          subst (λ (k : Counts). Sound k (listed c.loop-e.self ++ e ∷ [])) (sym same)
          (copied_sound e rest so came c.requires.room (s.counts all) (s.sound all));
    }

pub loop-e-preserved : goal.loop-e-preserved
loop-e-preserved g c =
    let came = c.in-Some.ensures in
    let so = c.loop-e.invariant in
    (copied_more c.in-Some.e (g.S.Source.rest c.next.new.self) so.0 came.hands c.requires.room c.append.ensures, came.keeps ∙ so.1)

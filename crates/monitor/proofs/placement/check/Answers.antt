use Rattle.std.proofs.Common.{◌≡◌, [], length, rules, Err, sym, ap, ◌∙◌, subst, subst₂, arith}
use Rattle.std.proofs.lemmas.Result.{err_from_is_err_and}
use Rattle.event.specs.declared.counts.Counts.{Counts}
use Rattle.event.specs.Thins.{Sound}
use Rattle.event.proofs.Sounds.{sound_held}
use Rattle.source.specs.Listed.{listed}
use Rattle.monitor.specs.declared.fault.PlacementFault.TheVariants.{Caller}
use Rattle.monitor.specs.Checks.{Judged, reached, refusing}
use Rattle.monitor.specs.Placement.{lowest}
use Rattle.monitor.specs.Tables.{size, room, tabled}
use Rattle.monitor.proofs.Judging.{judged, room_fits, room_lacks, checked_lacking, left_lacking, settled_answer, settled_levels}
use Rattle.monitor.proofs.Tabling.{cleared_clear, cleared_length}
use Rattle.monitor.proofs.placement.check.Goals as goal

pub returns-in_err-room : goal.returns-in_err-room
returns-in_err-room c =
    let l = c.args.list.now in
    let xs = c.args.levels.now in
    let p = err_from_is_err_and c.from_residual.result c.from_residual.ensures.1 in
    let why = room_lacks l.counts (length xs) _ (c.in_err-room.ensures ∙ ap (λ n. room n (length xs)) c.counts-counts.ensures) in
    let answer = p.1 ∙ ap Err (p.2 ∙ ap Caller why.1) ∙ sym (checked_lacking l.counts (listed l) xs why.0) in
    record {
      answer = answer;
      exact = subst (Judged l.counts (listed l) (length xs)) (sym answer) (judged l.counts (listed l) (sound_held l.counts (listed l) l.sound) (length xs));
      levels = sym (left_lacking l.counts (listed l) xs why.0);
    }

pub first_uncovered-requires : goal.first_uncovered-requires
first_uncovered-requires c =
    let l = c.args.list.now in
    let xs = c.args.levels.now in
    let m = c.clear.ensures in
    let fits = room_fits c.counts-counts.result (length xs) c.in_ok-room.ensures in
    let clear = m.levels ∙ cleared_clear c.counts-counts.result xs fits ∙ ap (tabled c.counts-counts.result []) (sym m.levels) in
    record {
      sound = subst₂ (λ (a : Counts) b. Sound a b) (sym (m.counts ∙ c.counts-counts.ensures)) (sym c.as_slice.ensures) (sound_held l.counts (listed l) l.sound);
      room = omega (arith, fits, ap length m.levels, cleared_length c.counts-counts.result xs, ap size m.counts);
      clear = subst (λ (d : Counts). c.clear.new.self.table.now ≡ tabled d [] c.clear.new.self.table.now) (sym m.counts) clear;
    }

pub returns : goal.returns
returns c =
    let l = c.args.list.now in
    let xs = c.args.levels.now in
    let m = c.clear.ensures in
    let found = c.first_uncovered.ensures in
    let refused : c.map_or.result ≡ refusing c.first_uncovered.result = search rules in
    let answer = refused ∙ settled_answer xs c.counts-counts.ensures c.as_slice.ensures m.levels c.in_ok-room.ensures (found.answer ∙ ap (λ d. lowest d c.as_slice.result.now) m.counts) in
    let leaves = settled_levels xs c.counts-counts.ensures c.as_slice.ensures m.levels c.in_ok-room.ensures (found.levels.levels ∙ ap (λ (d : Counts). tabled d (reached d c.as_slice.result.now) c.clear.new.self.table.now) m.counts) in
    record {
      answer = answer;
      exact = subst (Judged l.counts (listed l) (length xs)) (sym answer) (judged l.counts (listed l) (sound_held l.counts (listed l) l.sound) (length xs));
      levels = search (rules, leaves, found.levels.lent, m.lent);
    }

-- Tables that have the levels before and after an event find its overlaps.
use Rattle.std.proofs.Common.{rules, ◌≡◌, ℕ, suc, ◌<◌, Bool, true, false, cond, not, ◌&&◌, eqb, ltb, List, [], length, take, None, Option, sym, ◌∙◌, subst, ap₂, ⊎_elim}
use Rattle.std.specs.Option.{option_map}
use Rattle.std.proofs.ByRecursion.{All-get_or}
use Rattle.std.proofs.lemmas.Bool.{cases_Bool, lt-ltb, cond-true}
use Rattle.event.specs.declared.counts.Counts.{Counts}
use Rattle.event.specs.declared.record.Event.{Event}
use Rattle.event.specs.Thins.{Placed, Sound}
use Rattle.monitor.specs.declared.level.Level.{Level}
use Rattle.monitor.specs.Levels.{rank}
use Rattle.monitor.specs.Looks.{monitors}
use Rattle.monitor.specs.Overlaps.{event_at, just_after, rises, meets, lowest_fitting, on_both, overlap_with, raises, paired, meeting_on, named, as_overlap}
use Rattle.monitor.specs.Placement.{blank}
use Rattle.monitor.specs.Tables.{tabled}
use Rattle.monitor.proofs.Leveling.{monitors_limit, level_next, keeps_other, take_next}
use Rattle.monitor.proofs.Tabling.{tabled_at, tabled_calm}

module _ (L : List Event) (i u : ℕ) where
  both : (a b : Option ℕ) → on_both L i u a b ≡ as_overlap i u (paired (option_map (event_at L) a) (option_map (event_at L) b))
  both = search rules

  shape : (r m : Bool) (a b : Option ℕ) → cond (r && m) (on_both L i u a b) [] ≡ cond r (as_overlap i u (cond m (paired (option_map (event_at L) a) (option_map (event_at L) b)) None)) []
  shape = search rules

module _ (c : Counts) (L : List Event) (sound : Sound c L) (xs : List Level) (i u : ℕ) (li : i < length L) (lu : u < c.threads) where
  abbrev e : Event
  e = event_at L i

  abbrev old : List Level
  old = tabled c (take i L) xs

  abbrev new : List Level
  new = tabled c (take (suc i) L) xs

  placed : Placed c e
  placed = All-get_or (Placed c) L i blank li sound.placed

  -- an event that sets no level is no rise
  calm : monitors e.letter ≡ false → overlap_with L i u ≡ cond (raises c e old new) (as_overlap i u (named c L i u new)) []
  calm = search (rules, level_next, keeps_other, take_next, tabled_calm, placed)

  -- else its variable is declared, and the tables have the levels
  sets : monitors e.letter ≡ true → overlap_with L i u ≡ cond (raises c e old new) (as_overlap i u (named c L i u new)) []
  sets h =
      let lv : e.number < c.variables = subst (λ n. e.number < n) (monitors_limit c e.letter h) placed.number in
      let was = tabled_at c (take i L) xs e.thread e.number placed.thread lv in
      let own = tabled_at c (take (suc i) L) xs e.thread e.number placed.thread lv in
      let other = tabled_at c (take (suc i) L) xs u e.number lu lv in
      shape L i u (rises L i) (not (eqb u e.thread) && meets (just_after L i e.thread) (just_after L i u)) (lowest_fitting L (suc i) e.thread e.number) (lowest_fitting L (suc i) u e.number)
      ∙ ap₂ (λ r w. cond r (as_overlap i u w) [])
      (ap₂ (λ a b. ltb (rank a) (rank b)) (sym was) (sym own))
      (ap₂ (meeting_on L (suc i) e.thread u e.number) (sym own) (sym other) ∙ sym (cond-true (ltb i (length L)) _ _ (lt-ltb i (length L) li)))

  pub tables_find : overlap_with L i u ≡ cond (raises c e old new) (as_overlap i u (named c L i u new)) []
  tables_find = ⊎_elim sets calm (cases_Bool (monitors e.letter))

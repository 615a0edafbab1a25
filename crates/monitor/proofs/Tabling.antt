-- A table that has the levels after some events, and one event more.
use Rattle.std.proofs.Common.{rules, ◌≡◌, ℕ, ◌/◌, ◌%◌, ◌<◌, ◌≤◌, min, true, false, List, [], ◌∷◌, ◌++◌, length, get_or, drop, set, replicate, sym, ap, ◌∙◌, subst, ap₂, ⊎_elim, arith, length-append, length-drop, length-set}
use lib.ListN.{length-replicate}
use Rattle.std.proofs.lemmas.Nat.{div-mul-add, mod-mul-add, div-add-mod'}
use Rattle.std.proofs.lemmas.List.FromFn.{length-map-range_with_len, get_or-map-range_with_len, fill_by_all}
use Rattle.std.proofs.lemmas.List.{get_or_append_left, get_or-set_same, get_or-set_other, get_or-replicate, set-append_left, set-get_or, drop_at}
use Rattle.std.proofs.lemmas.Bool.{cases_Bool, cases_eq}
use Rattle.event.specs.declared.counts.Counts.{Counts}
use Rattle.event.specs.declared.record.Event.{Event}
use Rattle.event.specs.Thins.{Placed}
use Rattle.monitor.specs.declared.level.Level.{Level}
use Rattle.monitor.specs.declared.level.Level.TheVariants.{None as none}
use Rattle.monitor.specs.Levels.{level, after}
use Rattle.monitor.specs.Looks.{monitors}
use Rattle.monitor.specs.Tables.{size, slot, cleared, stepped, grid, tabled}
use Rattle.monitor.proofs.Leveling.{monitors_limit, level_push, keeps_other}

module _ (c : Counts) where
  pub slot_within : (t v : ℕ) → t < c.threads → v < c.variables → slot c t v < size c
  slot_within = search rules

  -- the level at an index
  abbrev at : List Event → ℕ → Level
  at L i = level L (i / c.variables) (i % c.variables)

  grid_length : (L : List Event) → length (grid c L) ≡ size c
  grid_length L = length-map-range_with_len (at L) 0 (size c)

  grid_at : (L : List Event) (i : ℕ) → i < size c → get_or (grid c L) i none ≡ at L i
  grid_at L i lt = get_or-map-range_with_len (at L) 0 (size c) i i none lt (omega arith)

  at_slot : (L : List Event) (t v : ℕ) → v < c.variables → at L (slot c t v) ≡ level L t v
  at_slot L t v lv = ap₂ (λ a b. level L a b) (div-mul-add t c.variables v lv) (mod-mul-add t c.variables v lv)

  pub tabled_at : (L : List Event) (xs : List Level) (t v : ℕ) → t < c.threads → v < c.variables → get_or (tabled c L xs) (slot c t v) none ≡ level L t v
  tabled_at = search (rules, get_or_append_left, grid_length, grid_at, at_slot)

  pub tabled_none : (xs : List Level) → size c ≤ length xs → cleared c xs ≡ tabled c [] xs
  tabled_none xs le =
      let all : min (size c) (length xs) ≡ size c = omega arith in
      ap (λ l. l ++ drop (size c) xs)
      (ap (λ n. replicate n none) all ∙ fill_by_all (at []) (replicate (size c) none) (size c) none (length-replicate (size c) none) (λ k lt. get_or-replicate (size c) k none none lt))

  -- the entries behind are those of the table that was lent
  pub tabled_again : (L M : List Event) (xs : List Level) → tabled c L (tabled c M xs) ≡ tabled c L xs
  tabled_again L M xs = ap (λ l. grid c L ++ l) (drop_at (grid c M) (drop (size c) xs) (size c) (grid_length M))

  -- a cleared table has the levels before any event
  pub cleared_clear : (xs : List Level) → size c ≤ length xs → cleared c xs ≡ tabled c [] (cleared c xs)
  cleared_clear xs le = tabled_none xs le ∙ sym (tabled_again [] [] xs) ∙ ap (tabled c []) (sym (tabled_none xs le))

  pub cleared_length : (xs : List Level) → length (cleared c xs) ≡ length xs
  cleared_length xs = length-append (replicate (min (size c) (length xs)) none) (drop (size c) xs) ∙ omega (arith, length-replicate (min (size c) (length xs)) none, length-drop (size c) xs)

  -- a table that has levels is large enough, and cleared once more it can have them again
  pub tabled_room : (L : List Event) (xs : List Level) → size c ≤ length (tabled c L xs)
  tabled_room L xs = omega (arith, length-append (grid c L) (drop (size c) xs), grid_length L)

  pub tabled_anew : (L M : List Event) (xs : List Level) → tabled c L (cleared c (tabled c M xs)) ≡ tabled c L xs
  tabled_anew L M xs = ap (tabled c L) (tabled_none (tabled c M xs) (tabled_room M xs)) ∙ tabled_again L [] (tabled c M xs) ∙ tabled_again L M xs

  module _ (L : List Event) (e : Event) (placed : Placed c e) where
    abbrev here : ℕ
    here = slot c e.thread e.number

    -- at an index that is not the event's, the level stays
    elsewhere : (i : ℕ) → (i ≡ here → ⊥) → at (L ++ e ∷ []) i ≡ at L i
    elsewhere = search (rules, div-add-mod', level_push)

    -- an event that sets no level changes nothing
    grid_calm : monitors e.letter ≡ false → grid c L ≡ grid c (L ++ e ∷ [])
    grid_calm calm =
        fill_by_all (at (L ++ e ∷ [])) (grid c L) (size c) none (grid_length L)
        (λ i lt. grid_at L i lt ∙ sym (level_push L e (i / c.variables) (i % c.variables) ∙ keeps_other e (i / c.variables) (i % c.variables) (at L i) calm))

    module _ (sets : monitors e.letter ≡ true) where
      number_within : e.number < c.variables
      number_within = subst (λ n. e.number < n) (monitors_limit c e.letter sets) placed.number

      here_within : here < size c
      here_within = slot_within e.thread e.number placed.thread number_within

      here_at : get_or (grid c L) here none ≡ level L e.thread e.number
      here_at = grid_at L here here_within ∙ at_slot L e.thread e.number number_within

      new_at : at (L ++ e ∷ []) here ≡ after e.letter (level L e.thread e.number)
      new_at = search (rules, level_push, at_slot)

      grid_set : set (grid c L) here (after e.letter (get_or (grid c L) here none)) ≡ grid c (L ++ e ∷ [])
      grid_set =
          fill_by_all (at (L ++ e ∷ [])) (set (grid c L) here (after e.letter (get_or (grid c L) here none))) (size c) none (length-set (grid c L) here _ ∙ grid_length L)
          (λ i lt. ⊎_elim
          (λ s. ap (λ n. get_or (set (grid c L) here (after e.letter (get_or (grid c L) here none))) n none) s
          ∙ get_or-set_same (grid c L) here _ none (omega (arith, grid_length L, here_within))
          ∙ ap (after e.letter) here_at
          ∙ sym new_at
          ∙ ap (at (L ++ e ∷ [])) (sym s))
          (λ ne. get_or-set_other (grid c L) here i _ none ne ∙ grid_at L i lt ∙ sym (elsewhere i ne))
          (cases_eq i here))

      step_sets : (xs : List Level) → stepped c (tabled c L xs) e ≡ tabled c (L ++ e ∷ []) xs
      step_sets = search (rules, get_or_append_left, set-append_left, grid_length, here_within, grid_set)

    step_calm : monitors e.letter ≡ false → (xs : List Level) → stepped c (tabled c L xs) e ≡ tabled c (L ++ e ∷ []) xs
    step_calm = search (rules, set-get_or, grid_calm)

    pub tabled_calm : monitors e.letter ≡ false → (xs : List Level) → tabled c L xs ≡ tabled c (L ++ e ∷ []) xs
    tabled_calm calm xs = ap (λ l. l ++ drop (size c) xs) (grid_calm calm)

    -- the table follows the levels
    pub tabled_step : (xs : List Level) → stepped c (tabled c L xs) e ≡ tabled c (L ++ e ∷ []) xs
    tabled_step xs = ⊎_elim (λ h. step_sets h xs) (λ h. step_calm h xs) (cases_Bool (monitors e.letter))

-- The check looks only where a moment can be uncovered, and finds the lowest uncovered one.
use Rattle.std.proofs.Common.{rules, ◌≡◌, ℕ, suc, ◌+◌, ◌<◌, ◌≤◌, Bool, true, false, not, ◌&&◌, ltb, ◌⊎◌, List, length, get_or, take, Some, None, sym, refl, ap, ◌∙◌, ap₂, inl, inr, ⊎_elim, add-one, arith}
use Rattle.std.proofs.lemmas.List.FromFn.{get_or-map-range_with_len}
use Rattle.std.proofs.ByRecursion.{All-get_or}
use Rattle.std.proofs.lemmas.List.{take_more}
use Rattle.std.proofs.lemmas.Bool.{both_ways, cases_Bool, cases_eq, and_left, and_parts, or_parts, ne_eqb, not-true}
use Rattle.event.specs.declared.counts.Counts.{Counts}
use Rattle.event.specs.declared.record.Event.{Event}
use Rattle.event.specs.Objects.{released}
use Rattle.event.specs.Thins.{Placed, Sound}
use Rattle.order.specs.Regions.{any_object}
use Rattle.monitor.specs.declared.level.Level.{Level}
use Rattle.monitor.specs.declared.level.Level.TheVariants.{None as none}
use Rattle.monitor.specs.Levels.{rank, level_at}
use Rattle.monitor.specs.Looks.{monitors, can_uncover, span, mark, thread_bare}
use Rattle.monitor.specs.Placement.{blank, Held, Covered, any_below, held, covered, exposed, uncovered, lowest}
use Rattle.monitor.specs.Regions.{releases_of}
use Rattle.monitor.specs.declared.table.Levels.{Levels}
use Rattle.monitor.specs.Lent.{LeftWith}
use Rattle.monitor.specs.Tables.{stepped, tabled}
use Rattle.monitor.proofs.Covering.{covered_iff, exposed_marked, held_not}
use Rattle.monitor.proofs.Leveling.{level_next, keeps_other, keeps_thread}
use Rattle.monitor.proofs.Marking.{suits_access}
use Rattle.monitor.proofs.Searching.{any_from, any_none, none_any, any_same, least_none, least_some}
use Rattle.monitor.proofs.Spans.{region_span, span_region, span_from_next, span_to_next}
use Rattle.monitor.proofs.Tabling.{tabled_at, tabled_step}

-- ---- which events can uncover

-- An event that is no release of t and leaves t's level on v alone leaves what covers it: the span of the moment only grows.
pub still_covered : (L : List Event) (k t v : ℕ) → k < length L → releases_of t (get_or L k blank) ≡ false → level_at L (suc k) t v ≡ level_at L k t v → Covered L k t v → Covered L (suc k) t v
still_covered L k t v lk calm same c =
    let p = c.0 in
    let by = c.1 in
    let r = region_span L t p k by.within (omega arith) (suits_access by.fits.suits) by.holds in
    let from = span_from_next L t k lk calm in
    let to = span_to_next L t k lk calm in (
      p,
      record {
        within = by.within;
        fits = record { thread = by.fits.thread; variable = by.fits.variable; suits = rw same by.fits.suits };
        holds = span_region L t p (suc k) by.within (omega arith) (omega (arith, r.0)) (omega (arith, r.1));
      },
    )

calm_thread : (e : Event) (t : ℕ) → (e.thread ≡ t → ⊥) → releases_of t e ≡ false
calm_thread = search rules

calm_release : (e : Event) (t : ℕ) → any_object (released e) ≡ false → releases_of t e ≡ false
calm_release = search rules

-- only an event of t, and of these only a release or one that sets a level, can uncover a level of t
pub only_some : (L : List Event) (k t v : ℕ) → k < length L → (can_uncover (get_or L k blank) ≡ false) ⊎ ((get_or L k blank).thread ≡ t → ⊥) →
    (Held L k t v → Covered L k t v) → Held L (suc k) t v → Covered L (suc k) t v
only_some L k t v lk (inl calm) h held =
    let e = get_or L k blank in
    let w = or_parts (any_object (released e)) (monitors e.letter) calm in
    let same = level_next L k lk t v ∙ keeps_other e t v (level_at L k t v) w.1 in
    still_covered L k t v lk (calm_release e t w.0) same (h (λ z. held (same ∙ z)))
only_some L k t v lk (inr other) h held =
    let e = get_or L k blank in
    let same = level_next L k lk t v ∙ keeps_thread e t v (level_at L k t v) (ne_eqb e.thread t other) in
    still_covered L k t v lk (calm_thread e t other) same (h (λ z. held (same ∙ z)))

pub exposed_parts : (L : List Event) (k t v : ℕ) → exposed L k t v ≡ true → Held L k t v × (Covered L k t v → ⊥)
exposed_parts L k t v h =
    let w = and_parts (held (level_at L k t v)) (not (covered L k t v)) h in
    (held_not (level_at L k t v) w.0, λ c. both_ways (covered L k t v) (not-true (covered L k t v) w.1) ((covered_iff L k t v).1 c))

pub safe_covered : (L : List Event) (k t v : ℕ) → exposed L k t v ≡ false → Held L k t v → Covered L k t v
safe_covered = search (rules, covered_iff)

pub covered_safe : (L : List Event) (k t v : ℕ) → (Held L k t v → Covered L k t v) → exposed L k t v ≡ false
covered_safe = search (rules, exposed_parts)

-- ---- one event more

-- where at most one number can pass, that one tells
any_only : (n : ℕ) (test : ℕ → Bool) (i : ℕ) → i < n → ((j : ℕ) → j < n → (j ≡ i → ⊥) → test j ≡ false) → any_below n test ≡ test i
any_only n test i lt h = go (test i) refl
  where
    go : (b : Bool) → test i ≡ b → any_below n test ≡ b
    go true p = any_from n test i lt p
    go false p = any_none n test (λ j lj. ⊎_elim (λ s. ap test s ∙ p) (λ ne. h j lj ne) (cases_eq j i))

module _ (c : Counts) (L : List Event) (sound : Sound c L) (k : ℕ) (lk : k < length L) (xs : List Level) where
  abbrev e : Event
  e = get_or L k blank

  pub placed_at : Placed c e
  placed_at = All-get_or (Placed c) L k blank lk sound.placed

  look_is : thread_bare c L (suc k) e.thread (tabled c (take (suc k) L) xs) ≡ any_below c.variables (λ v. exposed L (suc k) e.thread v)
  look_is =
      any_same c.variables _ _ (λ v lv.
      ap₂ (λ a b. ltb (rank a) (rank b))
      (get_or-map-range_with_len (λ w. mark e.thread w (span L e.thread (suc k))) 0 256 v v none (omega (arith, c.limits)) (omega arith))
      (tabled_at c (take (suc k) L) xs e.thread v placed_at.thread lv)
      ∙ sym (exposed_marked L (suc k) e.thread v (omega arith)))

  module _ (before : uncovered c L k ≡ false) where
    safe_at : (t v : ℕ) → t < c.threads → v < c.variables → exposed L k t v ≡ false
    safe_at t v lt lv = none_any c.variables (λ w. exposed L k t w) (none_any c.threads (λ u. any_below c.variables (λ w. exposed L k u w)) before t lt) v lv

    still_safe : (t : ℕ) → t < c.threads → (can_uncover e ≡ false) ⊎ (e.thread ≡ t → ⊥) → any_below c.variables (λ v. exposed L (suc k) t v) ≡ false
    still_safe t lt calm = any_none c.variables _ (λ v lv. covered_safe L (suc k) t v (only_some L k t v lk calm (safe_covered L k t v (safe_at t v lt lv))))

    -- a moment after a covered one is uncovered exactly if the event can uncover, and a look at its thread finds so
    pub uncovered_next : uncovered c L (suc k) ≡ (can_uncover e && thread_bare c L (suc k) e.thread (tabled c (take (suc k) L) xs))
    uncovered_next = ⊎_elim may (λ p. calm p ∙ sym (and_left (can_uncover e) _ p)) (cases_Bool (can_uncover e))
      where
        may : can_uncover e ≡ true → uncovered c L (suc k) ≡ (can_uncover e && thread_bare c L (suc k) e.thread (tabled c (take (suc k) L) xs))
        may p =
            any_only c.threads (λ t. any_below c.variables (λ v. exposed L (suc k) t v)) e.thread placed_at.thread (λ t lt ne. still_safe t lt (inr (λ s. ne (sym s))))
            ∙ sym look_is
            ∙ ap (λ b. b && thread_bare c L (suc k) e.thread (tabled c (take (suc k) L) xs)) (sym p)

        calm : can_uncover e ≡ false → uncovered c L (suc k) ≡ false
        calm p = any_none c.threads _ (λ t lt. still_safe t lt (inl p))

-- at the start nothing is held
pub uncovered_none : (c : Counts) (L : List Event) → uncovered c L 0 ≡ false
uncovered_none c L = any_none c.threads _ (λ t lt. any_none c.variables _ (λ v lv. refl))

-- ---- the lowest uncovered moment

pub lowest_found : (c : Counts) (L : List Event) (k : ℕ) → k ≤ length L → uncovered c L k ≡ true → ((j : ℕ) → j < k → uncovered c L j ≡ false) → lowest c L ≡ Some k
lowest_found c L k lk h below = least_some 0 (suc (length L)) (uncovered c L) k (omega arith) (omega arith) h (λ j le lt. below j lt)

pub lowest_none : (c : Counts) (L : List Event) → ((j : ℕ) → j ≤ length L → uncovered c L j ≡ false) → lowest c L ≡ None
lowest_none c L h = least_none 0 (suc (length L)) (uncovered c L) (λ j le lt. h j (omega arith))

-- ---- the turns of the check

module _ (c : Counts) (L : List Event) (sound : Sound c L) (i : ℕ) (lt : i < length L) (xs levels next : List Level) (so : levels ≡ tabled c (take i L) xs) (went : next ≡ stepped c levels (get_or L i blank)) where
  -- the table has the levels of the next moment
  pub turned : next ≡ tabled c (take (i + 1) L) xs
  turned = search (rules, take_more, tabled_step, placed_at)

  -- and the look tells whether that moment is uncovered
  pub told : {r : Bool} → uncovered c L i ≡ false → r ≡ (can_uncover (get_or L i blank) && thread_bare c L (i + 1) (get_or L i blank).thread next) → uncovered c L (i + 1) ≡ r
  told before looked =
      let e = get_or L i blank in
      ap (uncovered c L) (add-one i)
      ∙ uncovered_next c L sound i lt xs before
      ∙ ap (λ n. can_uncover e && thread_bare c L n e.thread (tabled c (take n L) xs)) (sym (add-one i))
      ∙ ap (λ l. can_uncover e && thread_bare c L (i + 1) e.thread l) (sym turned)
      ∙ sym looked

-- the same of a lent table that is stepped
module _ {start now next : Levels} (L : List Event) (sound : Sound start.counts L) (i : ℕ) (lt : i < length L) (so : LeftWith start now (tabled start.counts (take i L) start.table.now)) (went : LeftWith now next (stepped now.counts now.table.now (get_or L i blank))) where
  abbrev turn : Event
  turn = get_or L i blank

  stepped_there : next.table.now ≡ stepped start.counts now.table.now turn
  stepped_there = went.levels ∙ ap (λ d. stepped d now.table.now turn) so.counts

  pub turned_on : LeftWith start next (tabled start.counts (take (i + 1) L) start.table.now)
  turned_on = search (rules, turned)

  pub told_on : {r : Bool} → uncovered start.counts L i ≡ false → r ≡ (can_uncover turn && thread_bare next.counts L (i + 1) turn.thread next.table.now) → uncovered start.counts L (i + 1) ≡ r
  told_on before looked =
      told start.counts L sound i lt start.table.now now.table.now next.table.now so.levels stepped_there before
      (looked ∙ ap (λ d. can_uncover turn && thread_bare d L (i + 1) turn.thread next.table.now) (went.counts ∙ so.counts))

pub up_to_next : (c : Counts) (L : List Event) (i : ℕ) → ((j : ℕ) → j ≤ i → uncovered c L j ≡ false) → uncovered c L (i + 1) ≡ false → (j : ℕ) → j ≤ i + 1 → uncovered c L j ≡ false
up_to_next = search rules

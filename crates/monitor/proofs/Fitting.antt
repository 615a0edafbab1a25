-- The lowest fitting access is the first one of the span that fits.
use Rattle.std.proofs.Common.{◌≡◌, ℕ, suc, ◌+◌, ◌-◌, ◌<◌, ◌≤◌, Bool, true, false, not, ◌&&◌, List, length, get_or, drop, find, slice_get, Some, None, sym, refl, ap, ◌∙◌, ⊎_elim, arith, length-drop}
use Rattle.std.specs.List.{position_or_len}
use Rattle.std.specs.Option.{option_map}
use Rattle.std.proofs.lemmas.List.Folds.{find_at}
use Rattle.std.proofs.lemmas.List.Sums.{prefix_len_passes, prefix_len_stops}
use Rattle.std.proofs.lemmas.Option.{slice_get-get_or, slice_get_past}
use Rattle.std.proofs.lemmas.Bool.{both_ways, and_from, and_parts, cases_lt, not-true, not-false}
use Rattle.event.specs.declared.record.Event.{Event}
use Rattle.monitor.specs.declared.level.Level.{Level}
use Rattle.monitor.specs.Looks.{span_from, span_to, span}
use Rattle.monitor.specs.Overlaps.{event_at, lowest_fit, fitting_access_of}
use Rattle.monitor.specs.Placement.{blank, fits}
use Rattle.monitor.specs.Regions.{releases_of, in_region}
use Rattle.monitor.proofs.Bounding.{before_first_within}
use Rattle.monitor.proofs.Covering.{fits_iff, in_region_iff, span_at, span_length}
use Rattle.monitor.proofs.Marking.{suits_access}
use Rattle.monitor.proofs.Searching.{least_none, least_some}
use Rattle.monitor.proofs.Spans.{region_span, span_region, span_to_within}

module _ (L : List Event) (k t v : ℕ) (l : Level) where
  abbrev test : ℕ → Bool
  test p = fits (event_at L p) t v l && in_region L t p k

  -- no region has a moment behind the last one
  pub fit_late : length L < k → lowest_fit L k t v l ≡ None
  fit_late late = least_none 0 (length L) test (λ j le lt. go j (omega arith) (test j) refl)
    where
      go : (j : ℕ) → j < length L → (b : Bool) → test j ≡ b → b ≡ false
      go j lj true h =
          let r = (in_region_iff L t j k).0 (and_parts (fits (event_at L j) t v l) (in_region L t j k) h).1 in
          let m = before_first_within (releases_of t) (drop (suc j) L) in
          absurd (omega (arith, r.closed, length-drop (suc j) L))
      go j lj false h = refl

  module _ (lk : k ≤ length L) where
    -- outside the span, and where an event does not fit, nothing passes
    fails : (j : ℕ) → j < length L → (span_from L t k ≤ j → j < span_to L t k → fits (event_at L j) t v l ≡ false) → test j ≡ false
    fails j lj none = go (test j) refl
      where
        go : (b : Bool) → test j ≡ b → b ≡ false
        go true h =
            let w = and_parts (fits (event_at L j) t v l) (in_region L t j k) h in
            let s = region_span L t j k lj lk (suits_access ((fits_iff (event_at L j) t v l).0 w.0).suits) ((in_region_iff L t j k).0 w.1) in
            absurd (both_ways _ (none s.0 s.1) w.0)
        go false h = refl

    pub fit_none : ((j : ℕ) → span_from L t k ≤ j → j < span_to L t k → fits (event_at L j) t v l ≡ false) → lowest_fit L k t v l ≡ None
    fit_none none = least_none 0 (length L) test (λ j le lt. fails j (omega arith) (none j))

    pub fit_first : (i : ℕ) → span_from L t k ≤ i → i < span_to L t k → fits (event_at L i) t v l ≡ true → ((j : ℕ) → span_from L t k ≤ j → j < i → fits (event_at L j) t v l ≡ false) → lowest_fit L k t v l ≡ Some i
    fit_first i from to here none =
        let li : i < length L = omega (arith, span_to_within L t k lk) in
        least_some 0 (length L) test i (omega arith) (omega arith)
        (and_from (fits (event_at L i) t v l) (in_region L t i k) here ((in_region_iff L t i k).1 (span_region L t i k li lk from to)))
        (λ j le lt. fails j (omega arith) (λ a b. none j a lt))

    abbrev M : List Event
    M = span L t k

    abbrev first : Event → Bool
    first e = fits e t v l

    span_event : (j : ℕ) → j < length M → get_or M j blank ≡ event_at L (span_from L t k + j)
    span_event j lt = span_at L k t v lk j (omega (arith, span_length L k t v lk))

    fits_before : (m : ℕ) → m ≤ position_or_len first M → m ≤ length M → (j : ℕ) → span_from L t k ≤ j → j < span_from L t k + m → first (event_at L j) ≡ false
    fits_before m le lm j from lt =
        let i : ℕ = j - span_from L t k in
        let s : span_from L t k + i ≡ j = omega arith in
        sym (ap first (span_event i (omega arith) ∙ ap (event_at L) s)) ∙ not-true _ (prefix_len_passes (λ e. not (first e)) M i blank (omega arith))

    -- the first one of the span that fits
    pub fit_found : find first M ≡ fitting_access_of L k t v l
    fit_found = find_at first M ∙ ⊎_elim here behind (cases_lt (position_or_len first M) (length M))
      where
        here : position_or_len first M < length M → slice_get M (position_or_len first M) ≡ fitting_access_of L k t v l
        here lt =
            let n : ℕ = position_or_len first M in
            let to : span_from L t k + n < span_to L t k = omega (arith, span_length L k t v lk) in
            let hit = sym (ap first (span_event n lt)) ∙ not-false _ (prefix_len_stops (λ e. not (first e)) M blank lt) in
            slice_get-get_or M n blank lt
            ∙ ap Some (span_event n lt)
            ∙ ap (option_map (event_at L)) (sym (fit_first (span_from L t k + n) (omega arith) to hit (fits_before n (omega arith) (omega arith))))

        behind : length M ≤ position_or_len first M → slice_get M (position_or_len first M) ≡ fitting_access_of L k t v l
        behind le =
            slice_get_past M (position_or_len first M) le
            ∙ ap (option_map (event_at L)) (sym (fit_none (λ j from to. fits_before (length M) le (omega arith) j from (omega (arith, span_length L k t v lk)))))

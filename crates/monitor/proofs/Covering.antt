-- A held level is covered exactly if it is at most the mark of its variable in its thread's span of the moment.
use Rattle.std.proofs.Common.{rules, ◌≡◌, ℕ, ◌+◌, ◌-◌, ◌<◌, ◌≤◌, true, ltb, List, length, get_or, drop, Decides, sym, refl, ap, ◌∙◌, subst, arith, length-drop}
use Rattle.std.proofs.lemmas.List.{get_or-take, get_or-drop}
use Rattle.std.proofs.lemmas.Bool.{and_parts, false≢true, both_ways}
use Rattle.event.specs.declared.letter.Letter.{Letter}
use Rattle.event.specs.declared.letter.Letter.TheVariants.{Read, Write, Acquire, Release, Fork, Join, Begin, End, Strong, Weak, Downgrade, Stop}
use Rattle.event.specs.declared.record.Event.{Event}
use Rattle.event.specs.Order.{reads, writes as writing}
use Rattle.event.specs.Thins.{accesses}
use Rattle.event.proofs.Thinning.{access_true}
use Rattle.monitor.specs.declared.level.Level.{Level}
use Rattle.monitor.specs.declared.level.Level.TheVariants.{None as none, Weak as weak, Strong as strong}
use Rattle.monitor.specs.Levels.{rank, worth, level_at}
use Rattle.monitor.specs.Looks.{mark, span, span_from, span_to}
use Rattle.monitor.specs.Placement.{blank, Suits, strongly, weakly, Fits, CoveredBy, Covered, suits, writes, held, fits, covered_by, covered, exposed}
use Rattle.monitor.specs.Regions.{InRegion, in_region}
use Rattle.monitor.proofs.Marking.{own, marked, unmarked, suits_worth, worth_suits, suits_access, own_true, own_parts}
use Rattle.monitor.proofs.Searching.{any_found, any_from}
use Rattle.monitor.proofs.Spans.{region_span, span_region, span_to_within}

-- ---- the computed tests tell the truth

writes_true : (e : Event) → writes e.letter ≡ true → e.letter ≡ Write
writes_true e h = go e.letter refl h
  where
    go : (a : Letter) → e.letter ≡ a → writes a ≡ true → e.letter ≡ Write
    go Read s t = absurd (false≢true t)
    go Write s t = s
    go Acquire s t = absurd (false≢true t)
    go Release s t = absurd (false≢true t)
    go Fork s t = absurd (false≢true t)
    go Join s t = absurd (false≢true t)
    go Begin s t = absurd (false≢true t)
    go End s t = absurd (false≢true t)
    go Strong s t = absurd (false≢true t)
    go Weak s t = absurd (false≢true t)
    go Downgrade s t = absurd (false≢true t)
    go Stop s t = absurd (false≢true t)

suits_true : (l : Level) (e : Event) → suits l e.letter ≡ true → Suits l e
suits_true none e h = absurd (false≢true h)
suits_true weak e h = weakly refl (access_true e h)
suits_true strong e h = strongly refl (writes_true e h)

true_suits : {l : Level} {e : Event} → Suits l e → suits l e.letter ≡ true
true_suits {l} {e} (strongly s w) = ap (λ m. suits m e.letter) s ∙ ap writes w
true_suits {l} {e} (weakly s (reads r)) = ap (λ m. suits m e.letter) s ∙ ap accesses r
true_suits {l} {e} (weakly s (writing r)) = ap (λ m. suits m e.letter) s ∙ ap accesses r

pub fits_iff : (e : Event) (t v : ℕ) (l : Level) → Decides (fits e t v l) (Fits e t v l)
fits_iff = search rules

pub in_region_iff : (L : List Event) (t p k : ℕ) → Decides (in_region L t p k) (InRegion L t p k)
in_region_iff = search rules

pub covered_by_iff : (L : List Event) (k t v p : ℕ) → p < length L → Decides (covered_by L k t v p) (CoveredBy L k t v p)
covered_by_iff = search (rules, and_parts)

pub covered_iff : (L : List Event) (k t v : ℕ) → Decides (covered L k t v) (Covered L k t v)
covered_iff L k t v = (
  λ h.
      let w = any_found (length L) (covered_by L k t v) h in
      (w.0, (covered_by_iff L k t v w.0 w.1).0 w.2),
  λ c. any_from (length L) (covered_by L k t v) c.0 c.1.within ((covered_by_iff L k t v c.0 c.1.within).1 c.1),
)

pub held_rank : (l : Level) → held l ≡ true → 0 < rank l
held_rank none h = absurd (false≢true h)
held_rank weak h = omega arith
held_rank strong h = omega arith

pub rank_held : (l : Level) → 0 < rank l → held l ≡ true
rank_held none h = absurd (omega arith)
rank_held weak h = refl
rank_held strong h = refl

pub held_not : (l : Level) → held l ≡ true → l ≡ none → ⊥
held_not l h s = both_ways (held l) (ap held s) h

-- ---- spans

module _ (L : List Event) (k t v : ℕ) (lk : k ≤ length L) where
  pub span_at : (j : ℕ) → j < span_to L t k - span_from L t k → get_or (span L t k) j blank ≡ get_or L (span_from L t k + j) blank
  span_at j lt = get_or-take (span_to L t k - span_from L t k) (drop (span_from L t k) L) j blank lt ∙ get_or-drop (span_from L t k) L j blank

  pub span_length : length (span L t k) ≡ span_to L t k - span_from L t k
  span_length = search (rules, length-drop, span_to_within)

  pub covered_marked : Covered L k t v → rank (level_at L k t v) ≤ rank (mark t v (span L t k))
  covered_marked c =
      let p = c.0 in
      let by = c.1 in
      let r = region_span L t p k by.within lk (suits_access by.fits.suits) by.holds in
      let j : ℕ = p - span_from L t k in
      let lj : j < span_to L t k - span_from L t k = omega (arith, r.0, r.1) in
      let lm : j < length (span L t k) = omega (arith, span_length) in
      let sum : span_from L t k + j ≡ p = omega (arith, r.0) in
      let same : get_or (span L t k) j blank ≡ get_or L p blank = span_at j lj ∙ ap (λ n. get_or L n blank) sum in
      let m = marked t v (span L t k) j lm (subst (λ e. own t v e ≡ true) (sym same) (own_true t v (get_or L p blank) by.fits.thread by.fits.variable)) in
      let w = suits_worth (level_at L k t v) (get_or L p blank) by.fits.suits in
      omega (arith, ap (λ (e : Event). rank (worth e.letter)) same, m, w)

  pub marked_covered : 0 < rank (level_at L k t v) → rank (level_at L k t v) ≤ rank (mark t v (span L t k)) → Covered L k t v
  marked_covered low le =
      let w = unmarked t v (span L t k) (rank (level_at L k t v)) low le in
      let j : ℕ = w.at in
      let lj : j < span_to L t k - span_from L t k = omega (arith, span_length, w.within) in
      let p : ℕ = span_from L t k + j in
      let same : get_or (span L t k) j blank ≡ get_or L p blank = span_at j lj in
      let lp : p < length L = omega (arith, span_to_within L t k lk) in
      let o = own_parts t v (get_or L p blank) (subst (λ e. own t v e ≡ true) same w.owned) in
      let s = worth_suits (level_at L k t v) (get_or L p blank) low (subst (λ (e : Event). rank (level_at L k t v) ≤ rank (worth e.letter)) same w.worthy) in (
        p,
        record {
          within = lp;
          fits = record { thread = o.0; variable = o.1; suits = s };
          holds = span_region L t p k lp lk (omega arith) (omega arith);
        },
      )

  -- a held level that is not covered is one above its mark
  pub exposed_marked : exposed L k t v ≡ ltb (rank (mark t v (span L t k))) (rank (level_at L k t v))
  exposed_marked = search (rules, covered_iff, covered_marked, marked_covered)

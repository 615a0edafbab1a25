-- Overlaps are races: the regions of the two accesses share the moment just after the rise.
use Rattle.std.proofs.Common.{rules, ◌≡◌, ℕ, suc, ◌<◌, ◌≤◌, ltb, List, length, Some, None, Option, sym, refl, ap, ◌∙◌, subst, ⊎_elim, arith}
use Rattle.std.proofs.lemmas.Bool.{both_ways, cond_both, ltb-true, ltb-false, cases_order}
use Rattle.event.specs.declared.counts.Counts.{Counts}
use Rattle.event.specs.declared.record.Event.{Event}
use Rattle.event.specs.Order.{Conflict, Race}
use Rattle.event.specs.Thins.{Rising}
use Rattle.order.specs.Regions.{Region}
use Rattle.order.specs.Runs.{Two}
use Rattle.order.proofs.Moments.{shared_moment}
use Rattle.order.proofs.Places.{at_in, rising_at}
use Rattle.monitor.specs.declared.level.Level.{Level}
use Rattle.monitor.specs.declared.level.Level.TheVariants.{None as none}
use Rattle.monitor.specs.Levels.{level_at}
use Rattle.monitor.specs.Overlaps.{event_at, just_after, Rises, Meet, LowestFitting, by_place, Overlap, Overlaps, lowest_fitting}
use Rattle.monitor.specs.Placement.{blank, CoveredBy, Covered, WellPlaced, covered_by}
use Rattle.monitor.proofs.Agreeing.{regions_agree_lem}
use Rattle.monitor.proofs.Covering.{covered_by_iff}
use Rattle.monitor.proofs.Searching.{IsLeast, least_is}

-- the two sides of an overlap
module _ (L : List Event) (up : Rising L) (k t u v p q : ℕ) (lk : k ≤ length L) (apart : t ≡ u → ⊥) (meet : Meet (level_at L k t v) (level_at L k u v)) (a : CoveredBy L k t v p) (b : CoveredBy L k u v q) where
  conflict : Conflict (event_at L p) (event_at L q)
  conflict = search rules

  region_own : Region L (event_at L p) k
  region_own = (regions_agree_lem L up p k a.within lk).0 (rw a.fits.thread a.holds)

  region_other : Region L (event_at L q) k
  region_other = (regions_agree_lem L up q k b.within lk).0 (rw b.fits.thread b.holds)

  pub sides_race : (event_at L p).place < (event_at L q).place → Race L (event_at L p) (event_at L q)
  sides_race lt = shared_moment L up (event_at L p) (event_at L q) k (at_in L p blank a.within) (at_in L q blank b.within) lt conflict region_own region_other

  -- accesses of different threads have different places
  pub places_differ : (event_at L p).place ≡ (event_at L q).place → ⊥
  places_differ = search (rules, rising_at)

meet_swap : {l m : Level} → Meet l m → Meet m l
meet_swap = search rules

pub overlap_race : (c : Counts) (L : List Event) → Rising L → (o : Overlap) → Overlaps c L o → Race L o.two.0 o.two.1
overlap_race c L up o h = subst (λ (w : Two). Race L w.0 w.1) (sym h.pair) either
  where
    either : Race L (by_place (event_at L h.own) (event_at L h.others)).0 (by_place (event_at L h.own) (event_at L h.others)).1
    either =
        let t = (event_at L o.rise).thread in
        let v = (event_at L o.rise).number in
        let lk : suc o.rise ≤ length L = omega (arith, h.rises.within) in
        let a = h.own_access.covers in
        let b = h.others_access.covers in
        let apart : t ≡ o.other → ⊥ = λ s. h.apart (sym s) in
        let p = (event_at L h.own).place in
        let q = (event_at L h.others).place in
        cond_both (ltb p q) (event_at L h.own, event_at L h.others) (event_at L h.others, event_at L h.own) (λ (w : Two). Race L w.0 w.1)
        (λ lt. sides_race L up (suc o.rise) t o.other v h.own h.others lk apart h.meet a b (ltb-true p q lt))
        (λ ge.
        let low = ltb-false p q ge in
        let ne = places_differ L up (suc o.rise) t o.other v h.own h.others lk apart h.meet a b in
        sides_race L up (suc o.rise) o.other t v h.others h.own lk h.apart (meet_swap h.meet) b a (omega (arith, ne)))

-- ---- the lowest fitting access

pub lowest_is : (L : List Event) (k t v p : ℕ) → lowest_fitting L k t v ≡ Some p → LowestFitting L k t v p
lowest_is = search (rules, covered_by_iff, least_is)

pub lowest_exists : (L : List Event) (k t v : ℕ) → Covered L k t v → (p : ℕ) × (lowest_fitting L k t v ≡ Some p)
lowest_exists L k t v c = go (lowest_fitting L k t v) refl
  where
    go : (o : Option ℕ) → lowest_fitting L k t v ≡ o → (p : ℕ) × (lowest_fitting L k t v ≡ Some p)
    go (Some p) h = (p, h)
    go None h =
        let r = subst (IsLeast 0 (length L) (covered_by L k t v)) h (least_is 0 (length L) (covered_by L k t v)) in
        absurd (both_ways _ (r c.0 (omega arith) (omega (arith, c.1.within))) ((covered_by_iff L k t v c.0 c.1.within).1 c.1))

pub lowest_once : (L : List Event) (k t v p : ℕ) → LowestFitting L k t v p → lowest_fitting L k t v ≡ Some p
lowest_once L k t v p h =
    let e = lowest_exists L k t v (p, h.covers) in
    let g = lowest_is L k t v e.0 e.1 in
    e.1 ∙ ap Some (⊎_elim (λ s. s) (λ o. absurd (⊎_elim (λ lt. h.lowest e.0 lt g.covers) (λ lt. g.lowest p lt h.covers) o)) (cases_order e.0 p))

meet_held : {l m : Level} → Meet l m → (l ≡ none → ⊥) × (m ≡ none → ⊥)
meet_held = search rules

pub meeting_overlaps : (c : Counts) (L : List Event) → WellPlaced L → (i u : ℕ) → Rises L i → u < c.threads → (u ≡ (event_at L i).thread → ⊥) →
    Meet (just_after L i (event_at L i).thread) (just_after L i u) → (w : Two) × Overlaps c L (record { rise = i; other = u; two = w })
meeting_overlaps c L placed i u rise lu apart meet =
    let t = (event_at L i).thread in
    let v = (event_at L i).number in
    let held = meet_held meet in
    let lk : suc i ≤ length L = omega (arith, rise.within) in
    let p = lowest_exists L (suc i) t v (placed (suc i) t v lk held.0) in
    let q = lowest_exists L (suc i) u v (placed (suc i) u v lk held.1) in (
      by_place (event_at L p.0) (event_at L q.0),
      record {
        rises = rise;
        declared = lu;
        apart = apart;
        meet = meet;
        own = p.0;
        own_access = lowest_is L (suc i) t v p.0 p.1;
        others = q.0;
        others_access = lowest_is L (suc i) u v q.0 q.1;
        pair = refl;
      },
    )

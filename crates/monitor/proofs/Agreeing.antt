-- Regions by index and by place have the same moments, since in a rising list indices and places go alike.
use Rattle.std.proofs.Common.{rules, ◌≡◌, ℕ, suc, ◌<◌, ◌≤◌, true, eqb, ◌↔◌, List, length, Some, Option, sym, ap, subst, arith}
use mathlib.Core.List.Memᴰ
use Rattle.std.proofs.lemmas.Bool.{and_from, and_parts, eq-eqb, eqb-true}
use Rattle.event.specs.declared.object.Object.{Object}
use Rattle.event.specs.declared.record.Event.{Event}
use Rattle.event.specs.Objects.{released, acquired}
use Rattle.event.specs.Thins.{Rising}
use Rattle.order.specs.Regions.{Region, any_object}
use Rattle.order.proofs.Bounds.{front_in, front_at, back_at}
use Rattle.order.proofs.Front.{same_place}
use Rattle.order.proofs.Places.{at_in, in_at, index_drop, rising_at}
use Rattle.monitor.specs.Overlaps.{event_at}
use Rattle.monitor.specs.Placement.{blank}
use Rattle.monitor.specs.Regions.{acquires_of, releases_of, InRegion}
use Rattle.monitor.proofs.Spans.{front, front_most, back, back_most}

any_some : (a : Option Object) → any_object a ≡ true → (o : Object) × (a ≡ Some o)
any_some = search rules

module _ (L : List Event) (up : Rising L) where
  -- an event with a lower place has a lower index
  lower_index : (i j : ℕ) → i < length L → j < length L → (event_at L i).place < (event_at L j).place → i < j
  lower_index = search (rules, rising_at)

  module _ (p k : ℕ) (lp : p < length L) (lk : k ≤ length L) where
    abbrev t : ℕ
    t = (event_at L p).thread

    to_region : InRegion L t p k → Region L (event_at L p) k
    to_region r = record {
      opened = λ a o m s h lt.
          let i = in_at L blank m in
          let test : acquires_of t (event_at L i.0) ≡ true = subst (λ x. acquires_of t x ≡ true) (sym i.2) (and_from (eqb a.thread t) (any_object (acquired a)) (eq-eqb _ _ s) (ap any_object h)) in
          let before = lower_index i.0 p i.1 lp (omega (arith, same_place i.2)) in
          let past = front L (acquires_of t) p i.0 before i.1 test in
          Memᴰ.cast (sym i.2) (front_in L up k lk i.0 (omega (arith, r.opened)));
      closed = λ a o m s h lt.
          let i = in_at L blank m in
          let test : releases_of t (event_at L i.0) ≡ true = subst (λ x. releases_of t x ≡ true) (sym i.2) (and_from (eqb a.thread t) (any_object (released a)) (eq-eqb _ _ s) (ap any_object h)) in
          let behind = lower_index p i.0 lp i.1 (omega (arith, same_place i.2)) in
          let by = back L (releases_of t) (suc p) i.0 behind i.1 test in
          Memᴰ.cast (sym i.2) (index_drop L i.0 k i.1 (omega (arith, r.closed)));
    }

    from_region : Region L (event_at L p) k → InRegion L t p k
    from_region r = record {
      opened = front_most L (acquires_of t) p k (λ j lt lj h.
          let w = and_parts (eqb (event_at L j).thread t) (any_object (acquired (event_at L j))) h in
          let o = any_some (acquired (event_at L j)) w.1 in
          front_at L up k lk j lj (r.opened (event_at L j) o.0 (at_in L j blank lj) (eqb-true _ _ w.0) o.1 (rising_at L up j p blank lt lp)));
      closed = back_most L (releases_of t) (suc p) k lp lk (λ j le lj h.
          let w = and_parts (eqb (event_at L j).thread t) (any_object (released (event_at L j))) h in
          let o = any_some (released (event_at L j)) w.1 in
          back_at L up k lk j lj (r.closed (event_at L j) o.0 (at_in L j blank lj) (eqb-true _ _ w.0) o.1 (rising_at L up p j blank le lj)));
    }

    pub regions_agree_lem : InRegion L t p k ↔ Region L (event_at L p) k
    regions_agree_lem = (to_region, from_region)

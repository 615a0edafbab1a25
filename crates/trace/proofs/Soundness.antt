-- The events of a trace that are still to come are sound: their places rise from that of the next one on, none is above 999,999, and threads and numbers are in
-- range.
use Rattle.std.proofs.Common.{◌≡◌, ℕ, zero, suc, ◌+◌, ◌-◌, ◌/◌, ◌≤◌, Bool, true, false, cond, leb, List, [], ◌∷◌, length, drop, Ok, Err, Result, refl, arith}
use Rattle.std.specs.List.{AllByRecursion}
use Rattle.event.specs.declared.counts.Counts.{Counts}
use Rattle.event.specs.declared.record.Event.{Event}
use Rattle.event.specs.Thins.{After, Rising, Placed, Sound}
use Rattle.event.proofs.Offering.{in_range_parts}
use Rattle.format.specs.declared.fault.EventFault.{EventFault}
use Rattle.format.specs.Events.{read_event, got_event, got_events}
use Rattle.format.proofs.Checks.{event_range, event_place}
use Rattle.trace.specs.declared.events.Events.{Events}
use Rattle.trace.specs.Feed.{coming}

record From (c : Counts) (i : ℕ) (L : List Event) : Type 0 where
  rising : Rising L
  placed : AllByRecursion (Placed c) L
  above : AllByRecursion (λ e. i ≤ e.place) L

after_all : (e : Event) (i : ℕ) (L : List Event) → e.place ≡ i → AllByRecursion (λ f. i + 1 ≤ f.place) L → After e L
after_all e i [] p h = tt
after_all e i (f ∷ L) p h = (omega (arith, h.0), after_all e i L p h.1)

lower : (i : ℕ) (L : List Event) → AllByRecursion (λ e. i + 1 ≤ e.place) L → AllByRecursion (λ e. i ≤ e.place) L
lower i [] h = tt
lower i (e ∷ L) h = (omega (arith, h.0), lower i L h.1)

none : (c : Counts) (i : ℕ) → From c i []
none c i = record { rising = tt; placed = tt; above = tt }

one_more : (c : Counts) (i : ℕ) (bs : List ℕ) (L : List Event) (r : Result Event EventFault) → r ≡ read_event c i bs → i ≤ 999999 → From c (i + 1) L → From c i (got_event r L)
one_more c i bs L (Err f) h k more = none c i
one_more c i bs L (Ok e) h k more =
    let r = in_range_parts c e (event_range c i bs e h) in
    let p = event_place c i bs e h in
    record {
      rising = (after_all e i L p more.above, more.rising);
      placed = (record { thread = r.0; number = r.1; place = omega (arith, p) }, more.placed);
      above = (omega (arith, p), lower i L more.above);
    }

either : (c : Counts) (i : ℕ) (L : List Event) (b : Bool) → From c i L → From c i (cond b L [])
either c i L true h = h
either c i L false h = none c i

got_from : (c : Counts) (i n : ℕ) (bs : List ℕ) → n ≤ 1000000 - i → From c i (got_events c i n bs)
got_from c i zero bs h = none c i
got_from c i (suc n) bs h = either c i _ (leb 6 (length bs)) (one_more c i bs _ (read_event c i bs) refl (omega arith) (got_from c (i + 1) n (drop 6 bs) (omega arith)))

pub coming_sound : (s : Events) → Sound s.counts (coming s)
coming_sound s =
    let f = got_from s.counts s.place (length s.rest.now / 6) s.rest.now (omega (arith, s.few)) in
    record { rising = f.rising; placed = f.placed }

few_events : (n : ℕ) (L : List Event) (r : Result Event EventFault) (b : Bool) → length L ≤ n → length (cond b (got_event r L) []) ≤ suc n
few_events n L (Ok e) true h = omega arith
few_events n L (Err f) true h = omega arith
few_events n L r false h = omega arith

got_few : (c : Counts) (i n : ℕ) (bs : List ℕ) → length (got_events c i n bs) ≤ n
got_few c i zero bs = omega arith
got_few c i (suc n) bs = few_events n (got_events c (i + 1) n (drop 6 bs)) (read_event c i bs) (leb 6 (length bs)) (got_few c (i + 1) n (drop 6 bs))

pub coming_few : (s : Events) → length (coming s) ≤ 1000000
coming_few s = omega (arith, got_few s.counts s.place (length s.rest.now / 6) s.rest.now, s.few)

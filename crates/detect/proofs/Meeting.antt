-- What a rise offers is what the overlaps there name, and each of them can be a finding.
use Rattle.std.proofs.Common.{◌≡◌, ℕ, suc, ◌+◌, ◌<◌, ◌≤◌, Bool, true, false, cond, ◌||◌, ltb, List, [], ◌∷◌, ◌++◌, map, length, take, Some, None, Ok, Err, Option, sym, refl, ap, ◌∙◌, subst, arith}
use mathlib.Core.List.{Memᴰ}
use Rattle.std.proofs.lemmas.List.{map-append, length-map}
use Rattle.std.proofs.lemmas.Bool.{or_left, or_right, cond-true}
use Rattle.event.specs.declared.counts.Counts.{Counts}
use Rattle.event.specs.declared.fault.CallerFault.TheVariants.{Table}
use Rattle.event.specs.declared.record.Event.{Event}
use Rattle.event.specs.Order.{Access, reads, writes, Conflict, Race}
use Rattle.event.specs.Thins.{accesses, Sound}
use Rattle.event.proofs.Sounds.{sound_short}
use Rattle.finds.specs.Latest.{is_write_letter}
use Rattle.order.specs.Runs.{Two}
use Rattle.sink.specs.declared.sink.Sink.{Ghosts as Sinking}
use Rattle.stamp.specs.ClocksLemmas.{placed_in}
use Rattle.monitor.specs.declared.fault.PlacementFault.TheVariants.{Caller}
use Rattle.monitor.specs.declared.level.Level.{Level}
use Rattle.monitor.specs.Checks.{refusing, checked, up_to, left}
use Rattle.monitor.specs.Overlaps.{event_at, Overlap, overlap_with, gathered, overlaps_at, overlaps, reported, raises, named, as_overlap}
use Rattle.monitor.specs.Placement.{WellPlaced, lowest}
use Rattle.monitor.specs.Tables.{size, cleared, tabled}
use Rattle.monitor.proofs.Listing.{gathered_more, gathered_same, gathered_none, gathered_map, listed_with, overlaps_listed, overlaps_few}
use Rattle.monitor.proofs.Overlapping.{overlap_race, meeting_overlaps}
use Rattle.monitor.proofs.Reporting.{tables_find}
use Rattle.monitor.proofs.Tabling.{cleared_clear, tabled_room, tabled_anew}
use Rattle.detect.specs.Meetings.{if_named, named_by, if_raised, Reports}
use Rattle.detect.specs.Offers.{most, none, OffersTo}
use Rattle.detect.specs.Pairs.{conflicting}
use Rattle.detect.specs.declared.totals.Totals.{Totals}
use Rattle.detect.proofs.Conflicts.{true_conflicting}
use Rattle.detect.proofs.Rivals.{access_limit}
use Rattle.detect.proofs.Totaling.{reports}

-- ---- two accesses that race can be a finding

is_access_lem : {e : Event} → Access e → accesses e.letter ≡ true
is_access_lem (reads h) = ap accesses h
is_access_lem (writes h) = ap accesses h

one_writes : {i j : Event} → Access i → Access j → Conflict i j → (is_write_letter i.letter || is_write_letter j.letter) ≡ true
one_writes (writes h) b c = or_left _ _ (ap is_write_letter h)
one_writes (reads h) (writes k) c = or_right _ _ (ap is_write_letter k)
one_writes (reads h) (reads k) c = absurd (c.written h k)

race_conflicts : (c : Counts) (L : List Event) → Sound c L → (i j : Event) → Race L i j → conflicting i j ≡ true
race_conflicts c L s i j r =
    let p = placed_in c L s.placed r.second_in in
    let a = r.conflict in
    true_conflicting i j (record {
      order = r.order;
      last = p.place;
      apart = a.apart;
      written = one_writes a.first a.second a;
      same = a.variable;
      small = omega (arith, p.number, access_limit c j.letter (is_access_lem a.second), c.limits);
    })

-- ---- one rise

abbrev pub two_of : Overlap → Two
two_of o = o.two

module _ (c : Counts) (L : List Event) (sound : Sound c L) (i : ℕ) (li : i < length L) where
  -- what is named is an overlap, and so it is offered
  one : (u : ℕ) → u < c.threads → (b : Bool) (w : Option Two) → overlap_with L i u ≡ cond b (as_overlap i u w) [] → map two_of (overlap_with L i u) ≡ cond b (if_named w) []
  one u lu true None h = ap (map two_of) h
  one u lu true (Some p) h =
      let o : Overlap = record { rise = i; other = u; two = p } in
      let here : Memᴰ o (overlap_with L i u) = subst (λ xs. Memᴰ o xs) (sym h) (mathlib.Core.List.Memᴰ.head refl) in
      let race = overlap_race c L sound.rising o (listed_with c L i u li lu here) in
      ap (map two_of) h ∙ sym (cond-true (conflicting p.0 p.1) ((p.0, p.1) ∷ []) [] (race_conflicts c L sound p.0 p.1 race))
  one u lu false w h = ap (map two_of) h

  -- the levels before the event and just after it are those of two tables
  module _ (xs levels levels' : List Level) (was : levels ≡ tabled c (take i L) xs) (is : levels' ≡ tabled c (take (suc i) L) xs) where
    with_thread : (u : ℕ) → u < c.threads → map two_of (overlap_with L i u) ≡ cond (raises c (event_at L i) levels levels') (if_named (named c L i u levels')) []
    with_thread u lu =
        one u lu (raises c (event_at L i) levels levels') (named c L i u levels')
        (tables_find c L sound xs i u li lu ∙ (λ k. cond (raises c (event_at L i) (sym was k) (sym is k)) (as_overlap i u (named c L i u (sym is k))) []))

    all_of : (b : Bool) → gathered 0 c.threads (λ u. cond b (if_named (named c L i u levels')) []) ≡ cond b (named_by c L i levels' c.threads) []
    all_of true = refl
    all_of false = gathered_none (λ u. []) 0 c.threads (λ u. refl)

    pub rise_offers : if_raised c L i levels levels' ≡ map two_of (overlaps_at c L i)
    rise_offers =
        let b = raises c (event_at L i) levels levels' in
        sym (gathered_map (overlap_with L i) two_of 0 c.threads
        ∙ gathered_same (λ u. map two_of (overlap_with L i u)) (λ u. cond b (if_named (named c L i u levels')) []) 0 c.threads (λ u le lt. with_thread u (omega arith))
        ∙ all_of b)

-- ---- one rise after another

-- what the first n events report
abbrev pub reported_to : Counts → List Event → ℕ → List Two
reported_to c L n = map two_of (gathered 0 n (overlaps_at c L))

pub reported_more : (c : Counts) (L : List Event) (n : ℕ) → reported_to c L n ++ map two_of (overlaps_at c L n) ≡ reported_to c L (n + 1)
reported_more c L n =
    let z : 0 + n ≡ n = omega arith in
    sym (ap (map two_of) (gathered_more (overlaps_at c L) 0 n ∙ ap (λ k. gathered 0 n (overlaps_at c L) ++ overlaps_at c L k) z)
    ∙ map-append two_of (gathered 0 n (overlaps_at c L)) (overlaps_at c L n))

-- as few as the counters can hold
pub reported_few : (c : Counts) (L : List Event) → Sound c L → length (reported c L) ≤ most
reported_few c L s =
    let a = overlaps_few c L c.limits.1 in
    let b = sound_short c L s in
    let l = length-map (overlaps c L) two_of in
    omega (arith, a, b, l)

-- ---- the whole report

-- the check accepted the monitors
module _ (c : Counts) (L : List Event) (xs levels : List Level) (u : Unit {0}) (accepted : Ok u ≡ checked c L (length xs)) (leaves : levels ≡ left c L xs) where
  accepted_left : left c L xs ≡ tabled c L xs
  accepted_left = go (ltb (length xs) (size c)) refl (lowest c L) refl accepted
    where
      go : (b : Bool) → ltb (length xs) (size c) ≡ b → (o : Option ℕ) → lowest c L ≡ o → Ok u ≡ cond b (Err (Caller (Table (size c)))) (refusing o) → left c L xs ≡ tabled c L xs
      go true p o q h = absurd (let z : ◌≡◌ {A = ℕ} 0 1 = cc in omega arith)
      go false p None q h = λ k. cond (p k) xs (tabled c (up_to (q k) L) xs)
      go false p (Some m) q h = absurd (let z : ◌≡◌ {A = ℕ} 0 1 = cc in omega arith)

  settled : levels ≡ tabled c L xs
  settled = leaves ∙ accepted_left

  pub cleared_anew : cleared c levels ≡ tabled c [] (cleared c levels)
  cleared_anew = cleared_clear c levels (subst (λ l. size c ≤ length l) (sym settled) (tabled_room c L xs))

  pub levels_anew : tabled c L (cleared c levels) ≡ left c L xs
  levels_anew = ap (λ l. tabled c L (cleared c l)) settled ∙ tabled_anew c L L xs ∙ sym accepted_left

pub reports_all : {O : Type 0} (o : Sinking O) (c : Counts) (L : List Event) → Sound c L → WellPlaced L → (sink sink' : O) (t : Totals) → o.capacity sink' ≡ o.capacity sink → OffersTo o sink none (reported c L) sink' t →
    Reports o c L sink sink' t
reports_all o c L sound well sink sink' t same offers =
    let listed = overlaps_listed c L in
    record {
      overlaps = overlaps c L;
      exactly = listed.exact;
      in_order = listed.ordered;
      racing = λ x m. overlap_race c L sound.rising x ((listed.exact x).0 m);
      complete = λ i u r lu ne m. let x = meeting_overlaps c L well i u r lu ne m in (x.0, (listed.exact _).1 x.1);
      reported = (reports o sink sink' (reported c L) t offers (reported_few c L sound)).0;
      taken = (reports o sink sink' (reported c L) t offers (reported_few c L sound)).1;
      sink_capacity = same;
    }

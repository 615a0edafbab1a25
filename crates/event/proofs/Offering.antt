-- An offered event is taken exactly if the list with it is sound and there is room for it.
use Rattle.std.proofs.Common.{◌≡◌, ℕ, ◌<◌, Bool, true, false, cond, ◌&&◌, ltb, leb, List, [], ◌∷◌, ◌++◌, length, is_ok, Ok, Err, Decides, Result, sym, refl, ap, ◌∙◌, arith}
use Rattle.std.specs.List.{AllByRecursion}
use Rattle.std.proofs.ByRecursion.{All-push}
use Rattle.std.proofs.lemmas.Bool.{false≢true, ltb-true, leb-true, lt-ltb, le-leb, and_parts, and_from}
use Rattle.event.specs.declared.counts.Counts.{Counts}
use Rattle.event.specs.declared.record.Event.{Event}
use Rattle.event.specs.declared.fault.CallerFault.{CallerFault}
use Rattle.event.specs.declared.fault.CallerFault.TheVariants.{Range, Place, Full}
use Rattle.event.specs.Ranges.{limit, in_range}
use Rattle.event.specs.Offers.{above_last, offered}
use Rattle.event.specs.Thins.{After, Rising, Placed, Sound}

-- In a rising list every place is at most the last one, so one that is above the last is above each.
below_last : (e : Event) (L : List Event) (p : ℕ) → Rising (e ∷ L) → above_last (e ∷ L) p ≡ true → e.place < p
below_last e [] p r h = ltb-true e.place p h
below_last e (f ∷ L) p r h = let s = below_last f L p r.1 h in omega (arith, s, r.0.0)

above_tail : (e : Event) (L : List Event) (p : ℕ) → above_last (e ∷ L) p ≡ true → above_last L p ≡ true
above_tail e [] p h = refl
above_tail e (f ∷ L) p h = h

pub after_push : (x : Event) (L : List Event) (e : Event) → After x L → x.place < e.place → After x (L ++ e ∷ [])
after_push x [] e a h = (h, tt)
after_push x (f ∷ L) e a h = (a.0, after_push x L e a.1 h)

rising_push : (L : List Event) (e : Event) → Rising L → above_last L e.place ≡ true → Rising (L ++ e ∷ [])
rising_push [] e r h = (tt, tt)
rising_push (x ∷ L) e r h = (after_push x L e r.0 (below_last x L e.place r h), rising_push L e r.1 (above_tail x L e.place h))

after_last : (x : Event) (L : List Event) (e : Event) → After x (L ++ e ∷ []) → x.place < e.place
after_last x [] e a = a.0
after_last x (f ∷ L) e a = after_last x L e a.1

rising_last : (L : List Event) (e : Event) → Rising (L ++ e ∷ []) → above_last L e.place ≡ true
rising_last [] e r = refl
rising_last (x ∷ []) e r = lt-ltb x.place e.place r.0.0
rising_last (x ∷ f ∷ L) e r = rising_last (f ∷ L) e r.1

every_last : (P : Event → Type 0) (L : List Event) (e : Event) → AllByRecursion P (L ++ e ∷ []) → P e
every_last P [] e h = h.0
every_last P (x ∷ L) e h = every_last P L e h.1

both_parts : (a b : Bool) → cond a b false ≡ true → (a ≡ true) × (b ≡ true)
both_parts true b h = (refl, h)
both_parts false b h = absurd (false≢true h)

pub in_range_parts : (c : Counts) (e : Event) → in_range c e ≡ true → (e.thread < c.threads) × (e.number < limit c e.letter)
in_range_parts c e h =
    let p = both_parts _ _ h in
    (ltb-true e.thread c.threads p.0, ltb-true e.number (limit c e.letter) p.1)

pub placed_in_range : (c : Counts) (e : Event) → Placed c e → in_range c e ≡ true
placed_in_range c e p =
    (λ i. cond (lt-ltb e.thread c.threads p.thread i) (ltb e.number (limit c e.letter)) false)
    ∙ lt-ltb e.number (limit c e.letter) p.number

module _ (c : Counts) (capacity : ℕ) (L : List Event) (e : Event) where
  -- three tests in a row, all of which come out true
  passed : (a b d : Bool) → is_ok {T = Unit {0}} {E = CallerFault} (cond a (cond b (cond d (Ok tt) (Err (Full capacity))) (Err (Place e.place))) (Err (Range e.place))) ≡ true → (a ≡ true) × (b ≡ true) × (d ≡ true)
  passed true true true h = (refl, refl, refl)
  passed true true false h = absurd (false≢true h)
  passed true false d h = absurd (false≢true h)
  passed false b d h = absurd (false≢true h)

  taken : is_ok (offered c capacity L e) ≡ true → (in_range c e ≡ true) × ((above_last L e.place && leb e.place 999999) ≡ true) × (ltb (length L) capacity ≡ true)
  taken h = passed (in_range c e) (above_last L e.place && leb e.place 999999) (ltb (length L) capacity) h

  pub offered_room : is_ok (offered c capacity L e) ≡ true → length L < capacity
  offered_room h = ltb-true (length L) capacity (taken h).2

  pub offered_sound : Sound c L → is_ok (offered c capacity L e) ≡ true → Sound c (L ++ e ∷ [])
  offered_sound s h =
      let p = taken h in
      let q = and_parts _ _ p.1 in
      let r = in_range_parts c e p.0 in
      record {
        rising = rising_push L e s.rising q.0;
        placed = All-push (Placed c) L e s.placed (record { thread = r.0; number = r.1; place = leb-true e.place 999999 q.1 });
      }

  sound_offered : Sound c (L ++ e ∷ []) → length L < capacity → offered c capacity L e ≡ Ok tt
  sound_offered s h =
      let p = every_last (Placed c) L e s.placed in
      let b = and_from _ _ (rising_last L e s.rising) (le-leb e.place 999999 p.place) in
      λ i. cond (placed_in_range c e p i) (cond (b i) (cond (lt-ltb (length L) capacity h i) (Ok tt) (Err (Full capacity))) (Err (Place e.place))) (Err (Range e.place))

  pub offered_exactly : {r : Result (Unit {0}) CallerFault} → r ≡ offered c capacity L e → Sound c L → Decides (is_ok r) (Sound c (L ++ e ∷ []) × (length L < capacity))
  offered_exactly a s =
      let took = ap is_ok a in
      (λ h. (offered_sound s (sym took ∙ h), offered_room (sym took ∙ h)), λ h. took ∙ ap is_ok (sound_offered h.0 h.1))

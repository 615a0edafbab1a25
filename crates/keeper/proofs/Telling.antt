-- One event more: what was told stays sound, and fits.
use Rattle.std.proofs.Common.{◌≡◌, ℕ, ◌<◌, ◌≤◌, Bool, true, false, cond, ltb, leb, List, [], ◌∷◌, ◌++◌, length, Some, None, Ok, Err, Option, Result, refl, sym, subst, ap₂, ⊎_elim, arith, ltb-true, lt-ltb, leb-true}
use mathlib.Core.List.Memᴰ
use Rattle.std.proofs.lemmas.List.{length_push}
use Rattle.std.proofs.lemmas.Bool.{and_parts}
use Rattle.event.specs.declared.counts.Counts.{Counts}
use Rattle.event.specs.declared.fault.CallerFault.{CallerFault}
use Rattle.event.specs.declared.fault.CallerFault.TheVariants.{Range, Place, Full, Thread}
use Rattle.event.specs.declared.intake.Intake.{Intake}
use Rattle.event.specs.declared.record.Event.{Event}
use Rattle.event.specs.Entries.{IsEntry}
use Rattle.event.specs.Intakes.{last_place, follows, admitting, Took}
use Rattle.event.specs.Order.{◌∈◌}
use Rattle.event.specs.Ranges.{in_range}
use Rattle.event.specs.Thins.{Rising}
use Rattle.event.proofs.Intaking.{took_sound, took_room}
use Rattle.order.specs.Marks.{entry}
use Rattle.order.proofs.Entries.{entry_right, entry_once}
use Rattle.order.proofs.Front.{same_place}
use Rattle.stamp.specs.Slotting.{refusal}
use Rattle.keeper.specs.Telling.{Fits, telling, undeclared, unless, asking}

-- the good answer
abbrev good : Result (Unit {0}) CallerFault
good = Ok tt

-- what a test that was passed says
pub record Admitted (c : Counts) (capacity n : ℕ) (last : Option ℕ) (e : Event) : Type 0 where
  pub ranged : in_range c e ≡ true
  pub placed : follows last e.place ≡ true
  pub room : n < capacity

pub admitted : (c : Counts) (capacity n : ℕ) (last : Option ℕ) (e : Event) → good ≡ admitting c capacity n last e → Admitted c capacity n last e
admitted c capacity n last e h = go (in_range c e) refl (follows last e.place) refl (ltb n capacity) refl h
  where
    go : (a : Bool) → in_range c e ≡ a → (b : Bool) → follows last e.place ≡ b → (d : Bool) → ltb n capacity ≡ d → good ≡ cond a (cond b (cond d good (Err (Full capacity))) (Err (Place e.place))) (Err (Range e.place)) → Admitted c capacity n last e
    go true p true q true r s = record { ranged = p; placed = q; room = ltb-true _ _ r }
    go true p true q false r s = refusal s
    go true p false q d r s = refusal s
    go false p b q d r s = refusal s

-- and an event of which that holds passes the test
pub admits : (c : Counts) (capacity n : ℕ) (last : Option ℕ) (e : Event) → Admitted c capacity n last e → good ≡ admitting c capacity n last e
admits c capacity n last e a =
    let r : true ≡ ltb n capacity = sym (lt-ltb _ _ a.room) in
    λ i. cond (sym a.ranged i) (cond (sym a.placed i) (cond (r i) good (Err (Full capacity))) (Err (Place e.place))) (Err (Range e.place))

pub admitted_told : (c : Counts) (capacity n : ℕ) (last : Option ℕ) (e : Event) (es : List Event) → n ≡ length es → last ≡ last_place es → Admitted c capacity n last e → Admitted c capacity (length es) (last_place es) e
admitted_told c capacity n last e es p q a = record { ranged = a.ranged; placed = subst (λ l. follows l e.place ≡ true) q a.placed; room = omega (arith, a.room) }

follows_low : (last : Option ℕ) (p : ℕ) → follows last p ≡ true → p ≤ 999999
follows_low None p h = leb-true _ _ h
follows_low (Some q) p h = leb-true _ _ (and_parts (ltb q p) (leb p 999999) h).1

-- in a rising list a place above the last is above each
follows_all : (es : List Event) → Rising es → (p : ℕ) → follows (last_place es) p ≡ true → (f : Event) → f ∈ es → f.place < p
follows_all [] r p h f m = absurd (Memᴰ.not-nil m)
follows_all (x ∷ []) r p h f m = let lt = ltb-true _ _ (and_parts (ltb x.place p) (leb p 999999) h).0 in omega (arith, same_place (Memᴰ.eq_of_singleton m))
follows_all (x ∷ y ∷ es) r p h f m =
    let later = follows_all (y ∷ es) r.1 p h in
    ⊎_elim (λ s. omega (arith, same_place s, r.0.0, later y (Memᴰ.head refl))) (λ n. later f n) (Memᴰ.cases_cons m)

-- an event that was taken is one more of those that were told
pub fits_push : (c : Counts) (capacity : ℕ) (k : Intake) (es : List Event) (e : Event) → Took k es → good ≡ admitting c capacity k.taken k.last e → Fits c capacity es → Fits c capacity (es ++ e ∷ [])
fits_push c capacity k es e took ok h = record {
  sound = took_sound c capacity k es e took ok h.sound;
  few = omega (arith, took.many, took_room c capacity k es e took ok, length_push es e);
}

-- the answer is that for each list of the events that were taken
pub telling_same : (c : Counts) (capacity : ℕ) (k : Intake) (e : Event) (es : List Event) → Took k es → admitting c capacity k.taken k.last e ≡ telling c capacity es e
telling_same c capacity k e es took = ap₂ (λ n l. admitting c capacity n l e) took.many took.latest

pub none_undeclared : (c : Counts) (t u : ℕ) → good ≡ unless (undeclared c t u) tt → (◌≡◌ {A = Option CallerFault} None (undeclared c t u)) × (t < c.threads) × (u < c.threads)
none_undeclared c t u h = go (ltb t c.threads) refl (ltb u c.threads) refl h
  where
    go : (a : Bool) → ltb t c.threads ≡ a → (b : Bool) → ltb u c.threads ≡ b → good ≡ unless (cond a (cond b None (Some (Thread u))) (Some (Thread t))) tt → (◌≡◌ {A = Option CallerFault} None (cond a (cond b None (Some (Thread u))) (Some (Thread t)))) × (t < c.threads) × (u < c.threads)
    go true p true q s = (refl, ltb-true _ _ p, ltb-true _ _ q)
    go true p false q s = cc
    go false p b q s = cc

pub asked : (c : Counts) (es : List Event) (t u m : ℕ) → None ≡ undeclared c t u → m ≡ entry es t u → Ok m ≡ asking c es t u
asked c es t u m p q = ap₂ unless p q

-- the entry is the one that is computed
pub entry_computed : (c : Counts) (capacity : ℕ) (es : List Event) (t u m : ℕ) → Fits c capacity es → IsEntry es t u m → m ≡ entry es t u
entry_computed c capacity es t u m fit h = entry_once h (entry_right es fit.sound.rising t u)

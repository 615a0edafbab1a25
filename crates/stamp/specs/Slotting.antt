-- The slots of the objects that the counts have are apart, and within a table that is large enough.
use Rattle.std.specs.Prelude.{◌≡◌, ℕ, ◌<◌, ◌≤◌, Bool, true, false, cond, Some, None, Ok, Err, Option, Result, nat_lt, refl}
use Rattle.std.proofs.Common.{sym, ap, subst, arith}
use borrow.Author.Tests.{ltb-false}
use Rattle.event.specs.declared.counts.Counts.{Counts}
use Rattle.event.specs.declared.fault.CallerFault.{CallerFault}
use Rattle.event.specs.declared.fault.CallerFault.TheVariants.{Range}
use Rattle.event.specs.declared.letter.Letter.{Letter}
use Rattle.event.specs.declared.letter.Letter.TheVariants.{Read, Write, Acquire, Release, Fork, Join, Begin, End, Strong, Weak, Downgrade, Stop}
use Rattle.event.specs.declared.object.Object.{Object}
use Rattle.event.specs.declared.object.Object.TheVariants.{Declared, Start, Finish}
use Rattle.event.specs.declared.record.Event.{Event}
use Rattle.event.specs.Objects.{acquired_by, released_by}
use Rattle.event.specs.Order.{Acquires, Releases}
use Rattle.event.specs.Ranges.{limit, in_range}
use Rattle.event.specs.Thins.{Placed}
use Rattle.event.proofs.Offering.{in_range_parts}
use Rattle.stamp.specs.Slots.{slot, slots, Declares, lacking, unless_lacking, starting, handing}

pub slot_once : (c : Counts) (a b : Object) → Declares c a → Declares c b → slot c a ≡ slot c b → a ≡ b
slot_once c (Declared m) (Declared n) p q e = ap Declared e
slot_once c (Declared m) (Start n) p q e = absurd (omega arith)
slot_once c (Declared m) (Finish n) p q e = absurd (omega arith)
slot_once c (Start m) (Declared n) p q e = absurd (omega arith)
slot_once c (Start m) (Start n) p q e = ap Start (omega arith)
slot_once c (Start m) (Finish n) p q e = absurd (omega arith)
slot_once c (Finish m) (Declared n) p q e = absurd (omega arith)
slot_once c (Finish m) (Start n) p q e = absurd (omega arith)
slot_once c (Finish m) (Finish n) p q e = ap Finish (omega arith)

pub slot_within : (c : Counts) (o : Object) → Declares c o → slot c o < slots c
slot_within c (Declared n) p = omega (arith, c.limits)
slot_within c (Start t) p = omega arith
slot_within c (Finish t) p = omega arith

some_is : (c : Counts) (p o : Object) → Declares c p → ◌≡◌ {A = Option Object} (Some p) (Some o) → Declares c o
some_is c p o d e = let s : p ≡ o = cc in subst (Declares c) s d

-- what an event in range acquires and releases is an object that the counts have
module _ (c : Counts) (t n : ℕ) (own : t < c.threads) (o : Object) where
  acquires_declared : (l : Letter) → n < limit c l → acquired_by l t n ≡ Some o → Declares c o
  acquires_declared Read h e = cc
  acquires_declared Write h e = cc
  acquires_declared Acquire h e = some_is c (Declared n) o h e
  acquires_declared Release h e = cc
  acquires_declared Fork h e = cc
  acquires_declared Join h e = some_is c (Finish n) o h e
  acquires_declared Begin h e = some_is c (Start t) o own e
  acquires_declared End h e = cc
  acquires_declared Strong h e = cc
  acquires_declared Weak h e = cc
  acquires_declared Downgrade h e = cc
  acquires_declared Stop h e = cc

  releases_declared : (l : Letter) → n < limit c l → released_by l t n ≡ Some o → Declares c o
  releases_declared Read h e = cc
  releases_declared Write h e = cc
  releases_declared Acquire h e = cc
  releases_declared Release h e = some_is c (Declared n) o h e
  releases_declared Fork h e = some_is c (Start n) o h e
  releases_declared Join h e = cc
  releases_declared Begin h e = cc
  releases_declared End h e = some_is c (Finish t) o own e
  releases_declared Strong h e = cc
  releases_declared Weak h e = cc
  releases_declared Downgrade h e = cc
  releases_declared Stop h e = cc

pub acquired_declared : (c : Counts) (e : Event) → in_range c e ≡ true → (o : Object) → Acquires e o → Declares c o
acquired_declared c e h o a = let r = in_range_parts c e h in acquires_declared c e.thread e.number r.0 o e.letter r.1 a

pub released_declared : (c : Counts) (e : Event) → in_range c e ≡ true → (o : Object) → Releases e o → Declares c o
released_declared c e h o a = let r = in_range_parts c e h in releases_declared c e.thread e.number r.0 o e.letter r.1 a

abbrev good : Result (Unit {0}) CallerFault
good = Ok tt

-- an answer that was refused is not the good one
pub refusal : {A : Type 0} {f : CallerFault} → good ≡ Err f → A
refusal e = absurd (let z : ◌≡◌ {A = ℕ} 0 1 = cc in omega arith)

-- a start is taken where both tables are large enough
pub started_fits : (c : Counts) (m n : ℕ) → Ok tt ≡ starting c m n → (c.threads ≤ m) × (slots c ≤ n)
started_fits c m n h = go (nat_lt m c.threads) refl (nat_lt n (slots c)) refl h
  where
    go : (a : Bool) → nat_lt m c.threads ≡ a → (b : Bool) → nat_lt n (slots c) ≡ b → good ≡ unless_lacking (cond a (Some c.threads) (cond b (Some (slots c)) None)) (Ok tt) → (c.threads ≤ m) × (slots c ≤ n)
    go true p b q e = refusal e
    go false p true q e = refusal e
    go false p false q e = (ltb-false _ _ p, ltb-false _ _ q)

-- an event is taken where the tables are large enough and it is in range
pub handed_fits : (c : Counts) (m n : ℕ) (e : Event) → Ok tt ≡ handing c m n e → (c.threads ≤ m) × (slots c ≤ n) × (in_range c e ≡ true)
handed_fits c m n e h =
    let both = go (lacking c m n) refl (in_range c e) refl h in
    let fits = started_fits c m n both.0 in
    (fits.0, fits.1, both.1)
  where
    go : (o : Option ℕ) → lacking c m n ≡ o → (b : Bool) → in_range c e ≡ b → good ≡ unless_lacking o (cond b (Ok tt) (Err (Range e.place))) → (good ≡ starting c m n) × (in_range c e ≡ true)
    go None p true q s = (sym (ap (λ o. unless_lacking o (Ok tt)) p), q)
    go None p false q s = cc
    go (Some k) p b q s = cc

-- the same of an event that stands in a sound list
pub placed_acquired : (c : Counts) (e : Event) → Placed c e → (o : Object) → Acquires e o → Declares c o
placed_acquired c e p o a = acquires_declared c e.thread e.number p.thread o e.letter p.number a

pub placed_released : (c : Counts) (e : Event) → Placed c e → (o : Object) → Releases e o → Declares c o
placed_released c e p o a = releases_declared c e.thread e.number p.thread o e.letter p.number a

-- What an intake answers is what a list of the events that were taken is offered.
use Rattle.std.proofs.Common.{◌≡◌, ℕ, ◌<◌, Bool, true, false, cond, ◌&&◌, leb, ltb, List, [], ◌∷◌, ◌++◌, length, is_ok, Some, Ok, Err, Option, Result, sym, refl, ap, ◌∙◌, ap₂, arith}
use Rattle.std.proofs.lemmas.List.{length_push}
use Rattle.event.specs.declared.counts.Counts.{Counts}
use Rattle.event.specs.declared.fault.CallerFault.{CallerFault}
use Rattle.event.specs.declared.fault.CallerFault.TheVariants.{Range, Place, Full}
use Rattle.event.specs.declared.intake.Intake.{Intake}
use Rattle.event.specs.declared.record.Event.{Event}
use Rattle.event.specs.Intakes.{last_place, follows, admitting, added, Took}
use Rattle.event.specs.Offers.{above_last, offered}
use Rattle.event.specs.Ranges.{in_range}
use Rattle.event.specs.Thins.{Sound}
use Rattle.event.proofs.Offering.{offered_room, offered_sound}

follows_last : (es : List Event) (p : ℕ) → follows (last_place es) p ≡ (above_last es p && leb p 999999)
follows_last [] p = refl
follows_last (e ∷ []) p = refl
follows_last (e ∷ f ∷ es) p = follows_last (f ∷ es) p

-- the answer after so many events with this last place is that of any list of so many events with this last place
pub admitting_offered : (c : Counts) (capacity n : ℕ) (last : Option ℕ) (e : Event) (es : List Event) → n ≡ length es → last ≡ last_place es → admitting c capacity n last e ≡ offered c capacity es e
admitting_offered c capacity n last e es many latest =
    ap₂ (λ m l. admitting c capacity m l e) many latest
    ∙ ap (λ b. cond (in_range c e) (cond b (cond (ltb (length es) capacity) (Ok tt) (Err (Full capacity))) (Err (Place e.place))) (Err (Range e.place))) (follows_last es e.place)

pub last_push : (es : List Event) (e : Event) → last_place (es ++ e ∷ []) ≡ Some e.place
last_push [] e = refl
last_push (x ∷ []) e = refl
last_push (x ∷ y ∷ es) e = last_push (y ∷ es) e

pub took_push : (k : Intake) (es : List Event) (e : Event) → Took k es → Took (added k e) (es ++ e ∷ [])
took_push k es e h = record { many = omega (arith, h.many, length_push es e); latest = sym (last_push es e) }

-- an event that is taken after the events of a list
module _ (c : Counts) (capacity : ℕ) (k : Intake) (es : List Event) (e : Event) (took : Took k es) (ok : Ok tt ≡ admitting c capacity k.taken k.last e) where
  taken : is_ok (offered c capacity es e) ≡ true
  taken = sym (ap is_ok (ok ∙ admitting_offered c capacity k.taken k.last e es took.many took.latest))

  pub took_ranged : in_range c e ≡ true
  took_ranged = go (in_range c e) refl ok
    where
      go : (b : Bool) → in_range c e ≡ b → ◌≡◌ {A = Result (Unit {0}) CallerFault} (Ok tt) (cond b (cond (follows k.last e.place) (cond (ltb k.taken capacity) (Ok tt) (Err (Full capacity))) (Err (Place e.place))) (Err (Range e.place))) → in_range c e ≡ true
      go true p q = p
      go false p q = cc

  pub took_sound : Sound c es → Sound c (es ++ e ∷ [])
  took_sound s = offered_sound c capacity es e s taken

  pub took_room : k.taken < capacity
  took_room = omega (arith, took.many, offered_room c capacity es e taken)

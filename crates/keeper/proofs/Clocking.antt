-- What the clocks mean, from one event to the next.
use Rattle.std.proofs.Common.{◌≡◌, ℕ, ◌<◌, List, [], ◌∷◌, ◌++◌, length, get_or, Some, None, Ok, Option, sym, refl, ap, ◌∙◌, subst, subst₂, arith, length-set}
use Rattle.std.specs.Option.{option_map}
use Rattle.event.specs.declared.counts.Counts.{Counts}
use Rattle.event.specs.declared.record.Event.{Event}
use Rattle.event.specs.Entries.{IsEntry}
use Rattle.event.specs.Objects.{released}
use Rattle.event.specs.Thins.{Rising}
use Rattle.event.specs.declared.intake.Intake.{Intake}
use Rattle.event.specs.Intakes.{fresh, added, admitting}
use Rattle.event.proofs.Clearing.{length_cleared}
use Rattle.event.proofs.Intaking.{took_push, took_ranged}
use Rattle.order.specs.Stamps.{deeds, Behind, Bound}
use Rattle.order.proofs.Deeds.{deed, events_deeds, deeds_push}
use Rattle.stamp.specs.declared.clock.Clock.{Clock}
use Rattle.stamp.specs.Clocks.{NoLater, later, zeros, tick, TellsEntry}
use Rattle.stamp.specs.Slots.{slot, slots, starting}
use Rattle.stamp.specs.Tables.{cleared, Means, joined_into, stamp_after, threads_after, objects_after}
use Rattle.stamp.specs.Carrying.{adds, means_none}
use Rattle.stamp.specs.ClocksLemmas.{clock_laws}
use Rattle.stamp.specs.Slotting.{started_fits}
use Rattle.keeper.specs.Kept.{many, Clocked}
use Rattle.keeper.proofs.Telling.{fits_push}

length_into : (os : List Clock) (o : Option ℕ) (s : Clock) → length (joined_into later os o s) ≡ length os
length_into os None s = refl
length_into os (Some k) s = length-set os k (later (get_or os k s) s)

pub length_threads : (c : Counts) (ts os : List Clock) (e : Event) → length (threads_after later zeros c ts os e (tick e)) ≡ length ts
length_threads c ts os e = length-set ts e.thread (stamp_after later zeros c ts os e (tick e))

pub length_objects : (c : Counts) (ts os : List Clock) (e : Event) → length (objects_after later zeros c ts os e (tick e)) ≡ length os
length_objects c ts os e = length_into os (option_map (slot c) (released e)) (stamp_after later zeros c ts os e (tick e))

-- cleared tables mean the empty list
pub clocked_none : (c d : Counts) (ts os ts' os' : List Clock) → d ≡ c → Ok tt ≡ starting c (length ts) (length os) → ts' ≡ cleared c.threads zeros ts → os' ≡ cleared (slots c) zeros os → Clocked d fresh ts' os' []
clocked_none c d ts os ts' os' same ok p q =
    let fit = started_fits c (length ts) (length os) ok in
    subst (λ x. Clocked x fresh ts' os' []) (sym same)
    (record {
      fits = record { sound = record { rising = tt; placed = tt }; few = omega arith };
      took = record { many = refl; latest = refl };
      threads_fit = omega (arith, fit.0, ap length p ∙ length_cleared c.threads zeros ts);
      objects_fit = omega (arith, fit.1, ap length q ∙ length_cleared (slots c) zeros os);
      stamps = subst₂ (λ l m. Means NoLater zeros c [] l m) (sym p) (sym q) (means_none clock_laws c ts os fit.0 fit.1);
    })

-- an event that was carried through the tables is told
pub clocked_push : (c : Counts) (k : Intake) (ts os ts' os' : List Clock) (e : Event) (es : List Event) → ts' ≡ threads_after later zeros c ts os e (tick e) → os' ≡ objects_after later zeros c ts os e (tick e) → Ok tt ≡ admitting c many k.taken k.last e → Clocked c k ts os es → Clocked c (added k e) ts' os' (es ++ e ∷ [])
clocked_push c k ts os ts' os' e es p q ok h =
    let fit = fits_push c many k es e h.took ok h.fits in
    let more = adds clock_laws c ts os h.threads_fit h.objects_fit e (tick e) (took_ranged c many k es e h.took ok) (deeds tick es) (subst (λ L. Rising (L ++ e ∷ [])) (sym (events_deeds tick es)) fit.sound.rising) h.stamps in
    record {
      fits = fit;
      took = took_push k es e h.took;
      threads_fit = omega (arith, h.threads_fit, ap length p ∙ length_threads c ts os e);
      objects_fit = omega (arith, h.objects_fit, ap length q ∙ length_objects c ts os e);
      stamps = subst (λ xs. Means NoLater zeros c xs ts' os') (sym (deeds_push tick es e)) (subst₂ (λ l m. Means NoLater zeros c (deeds tick es ++ deed tick e ∷ []) l m) (sym p) (sym q) more);
    }

-- the clock of a declared thread has its entries
pub clocked_entry : (c : Counts) (k : Intake) (ts os : List Clock) (es : List Event) (t u m : ℕ) (x : Clock) → Clocked c k ts os es → t < c.threads → u < c.threads → x ≡ get_or ts t zeros → TellsEntry x u m → IsEntry es t u m
clocked_entry c k ts os es t u m x h lt lu same tells =
    tells c es t h.fits.sound lu
    (subst (λ y. Bound NoLater (deeds tick es) (λ e. Behind es e t) y) (sym same)
    (subst (λ L. Bound NoLater (deeds tick es) (λ e. Behind L e t) (get_or ts t zeros)) (events_deeds tick es) (h.stamps.thread t lt)))

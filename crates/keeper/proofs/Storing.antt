-- The events that a walk stores.
use Rattle.std.proofs.Common.{◌≡◌, ℕ, ◌<◌, min, List, [], ◌∷◌, ◌++◌, length, take, set, Ok, sym, ap, ◌∙◌, subst, subst₂, arith, length-set}
use Rattle.std.proofs.lemmas.List.{take_more_set}
use Rattle.event.specs.declared.counts.Counts.{Counts}
use Rattle.event.specs.declared.intake.Intake.{Intake}
use Rattle.event.specs.declared.record.Event.{Event}
use Rattle.event.specs.Entries.{IsEntry}
use Rattle.event.specs.Intakes.{added, admitting}
use Rattle.event.proofs.Intaking.{took_push, took_room}
use Rattle.keeper.specs.Kept.{Walked}
use Rattle.keeper.specs.Telling.{Fits}
use Rattle.keeper.specs.Walks.{WalksTo}
use Rattle.keeper.proofs.Telling.{fits_push}

pub walked_push : (c : Counts) (k : Intake) (events : List Event) (e : Event) (es : List Event) → Ok tt ≡ admitting c (length events) k.taken k.last e → Walked c k events es → Walked c (added k e) (set events k.taken e) (es ++ e ∷ [])
walked_push c k events e es ok h = record {
  fits = subst (λ m. Fits c m (es ++ e ∷ [])) (sym (length-set events k.taken e)) (fits_push c (length events) k es e h.took ok h.fits);
  took = took_push k es e h.took;
  front = ap (λ l. l ++ e ∷ []) h.front ∙ sym (take_more_set events k.taken e (took_room c (length events) k es e h.took ok));
}

-- the part that is walked over is what was told
pub walked_entry : (c d : Counts) (k : Intake) (events : List Event) (n : ℕ) (es : List Event) (t u m : ℕ) → d ≡ c → n ≡ min k.taken (length events) → Walked c k events es → t < c.threads → u < c.threads → WalksTo d (take n events) t u m → IsEntry es t u m
walked_entry c d k events n es t u m same cut h lt lu walks =
    let whole : n ≡ k.taken = omega (arith, h.fits.few, h.took.many, cut) in
    let told : take n events ≡ es = ap (λ j. take j events) whole ∙ sym h.front in
    let right = subst₂ (λ x l. WalksTo x l t u m) same told walks in
    right h.fits.sound lt lu

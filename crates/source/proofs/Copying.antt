-- A list that takes a source's events one by one.
use Rattle.std.proofs.Common.{◌≡◌, ◌+◌, ◌<◌, ◌≤◌, List, [], ◌∷◌, ◌++◌, length, drop, set, sym, refl, ap, ◌∙◌, subst, arith, length-append, length-drop}
use Rattle.std.proofs.lemmas.List.{append_assoc, drop_more, set_at, length_push}
use Rattle.event.specs.declared.counts.Counts.{Counts}
use Rattle.event.specs.declared.record.Event.{Event}
use Rattle.event.specs.Thins.{Sound}
use Rattle.event.proofs.Sounds.{sound_front}
use Rattle.source.specs.Listed.{Held, with_event, refilled}

-- of all events some were taken into the list and `left` are still to come; otherwise it is as it was
pub record Copied (all left : List Event) (was now : Held) : Type 0 where
  pub split : now.events ++ left ≡ all
  pub filled : now ≡ refilled was was.counts now.events

module _ {all left : List Event} {was now : Held} (e : Event) (rest : List Event) (so : Copied all left was now) (came : left ≡ e ∷ rest) (room : length all ≤ length was.entries) where
  whole : (now.events ++ e ∷ []) ++ rest ≡ all
  whole = append_assoc now.events (e ∷ []) rest ∙ ap (λ l. now.events ++ l) (sym came) ∙ so.split

  short : length now.events < length was.entries
  short =
      let h = simp length-append at (ap length whole) in
      omega (arith, h)

  pub copied_room : length now.events < length now.entries
  copied_room =
      subst (λ (h : Held). length now.events < length h.entries) (sym so.filled) (simp (length-append, length-drop) (omega (arith, short)))

  pub copied_sound : (c : Counts) → Sound c all → Sound c (now.events ++ e ∷ [])
  copied_sound c s = sound_front c (now.events ++ e ∷ []) rest (subst (Sound c) (sym whole) s)

  -- the entry behind those taken is the one that the next event takes
  pub copied_more : {next : Held} → next ≡ with_event now e → Copied all rest was next
  copied_more {next} q =
      let d = drop_more was.entries (length now.events) e short in
      let n : length now.events + 1 ≡ length (now.events ++ e ∷ []) = sym (length_push now.events e) in
      let front : set now.entries (length now.events) e ≡ (now.events ++ e ∷ []) ++ drop (length (now.events ++ e ∷ [])) was.entries =
      ap (λ (h : Held). set h.entries (length now.events) e) so.filled ∙ ap (λ l. set (now.events ++ l) (length now.events) e) d ∙ set_at now.events _ _ e (length now.events) refl
      ∙ sym (append_assoc now.events (e ∷ []) _) ∙ ap (λ k. (now.events ++ e ∷ []) ++ drop k was.entries) n in
      subst (Copied all rest was) (sym q) (record {
        split = whole;
        filled = λ i. record { lender = (so.filled i).lender; counts = (so.filled i).counts; events = now.events ++ e ∷ []; entries = front i };
      })

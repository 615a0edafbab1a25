-- Offers leave the source, the keeper and the table aside.
use Rattle.std.proofs.Common.{◌≡◌, ℕ, ◌<◌, true, cond, List, [], ◌∷◌, ◌++◌, get_or, None, Option, sym, ap, ◌∙◌, subst, subst₂, rules}
use Rattle.event.specs.declared.letter.Letter.TheVariants.{Read, Write}
use Rattle.event.specs.declared.record.Event.{Event}
use Rattle.event.specs.Thins.{access, Sound}
use Rattle.finds.specs.Found.{against_one}
use Rattle.finds.specs.Latest.{is_write_letter}
use Rattle.order.specs.Marks.{entry}
use Rattle.keeper.specs.declared.keeper.Keeper.{Ghosts as Keeping}
use Rattle.sink.specs.declared.sink.Sink.{Ghosts as Sinking}
use Rattle.source.specs.declared.source.Source.{Ghosts as Giving}
use Rattle.detect.specs.Reports.{unless_below, Aside, Ready}
use Rattle.detect.specs.Table.{slot, Holds}
use Rattle.detect.specs.declared.run.Run.{Run}
use Rattle.detect.proofs.Rivals.{own_variable, rivals_same}

module _ {S K O : Type 0} {o : Sinking O} where
  pub aside_none : (run : Run S K O) → Aside o run run
  aside_none run = search rules

  pub aside_more : {was mid is : Run S K O} → Aside o was mid → Aside o mid is → Aside o was is
  aside_more a b = search rules

  pub ready_aside : {s : Giving S} {k : Keeping K} {was is : Run S K O} {T : List Event} {j : Event} → Aside o was is → Ready s k was T j → Ready s k is T j
  ready_aside {s} {k} {was} {is} {T} {j} a r =
      let counts : s.counts is.source.now ≡ s.counts was.source.now = ap (λ x. s.counts x.now) a.source in
      record {
        told = subst (λ x. k.told x.now (T ++ j ∷ [])) (sym a.keeper) r.told;
        counts = ap (λ x. k.counts x.now) a.keeper ∙ r.counts ∙ sym counts;
        holds = subst₂ (λ c x. Holds c T x.now) (sym counts) (sym a.latest) r.holds;
        sound = subst (λ c. Sound c (T ++ j ∷ [])) (sym counts) r.sound;
      }

-- what was offered of the table's accesses of a thread is what is found against that thread
pub thread_same : {S K O : Type 0} (s : Giving S) (k : Keeping K) (run : Run S K O) (T : List Event) (j : Event) (u known : ℕ) (w r : Option Event) →
    Ready s k run T j → access j ≡ true → u < (s.counts run.source.now).threads → (u ≡ j.thread → ⊥) → known ≡ entry (T ++ j ∷ []) j.thread u →
    w ≡ get_or run.latest.now (slot (s.counts run.source.now) Write u j.number) None → r ≡ get_or run.latest.now (slot (s.counts run.source.now) Read u j.number) None →
    (unless_below known j w ++ cond (is_write_letter j.letter) (unless_below known j r) []) ≡ against_one (entry (T ++ j ∷ []) j.thread u) T j u
thread_same s k run T j u known w r h a lt apart e p q =
    let c = s.counts run.source.now in
    let v = own_variable c T j h.sound a in
    rivals_same c T j h.sound a known u apart w r (p ∙ h.holds.write u j.number lt v) (q ∙ h.holds.read u j.number lt v)
    ∙ ap (λ n. against_one n T j u) e

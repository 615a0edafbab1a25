-- One more event at the end of a run: the step of a loop over the events.
use Rattle.std.proofs.Common.{◌≡◌, List, [], ◌∷◌, ◌++◌, refl, ap, ◌∙◌}
use Rattle.event.specs.declared.record.Event.{Event}
use Rattle.order.specs.Stamps.{Deed, State, deeds, step, run, fresh}
use Rattle.order.proofs.Deeds.{deed, deeds_push}
use Rattle.order.specs.Marks.{tick, larger, zeros}

pub run_push : {S : Type 0} (join : S → S → S) (s : State S) (xs : List (Deed S)) (x : Deed S) → run join s (xs ++ x ∷ []) ≡ step join (run join s xs) x
run_push join s [] x = refl
run_push join s (y ∷ xs) x = run_push join (step join s y) xs x

pub clocks_push : (L : List Event) (e : Event) → run larger (fresh zeros) (deeds tick (L ++ e ∷ [])) ≡ step larger (run larger (fresh zeros) (deeds tick L)) (deed tick e)
clocks_push L e = ap (run larger (fresh zeros)) (deeds_push tick L e) ∙ run_push larger (fresh zeros) (deeds tick L) (deed tick e)

-- What a keeper's answer to a question is.
use Rattle.std.proofs.Common.{◌≡◌, ℕ, ◌<◌, cond, List, Some, None, Ok, Option, ◌∙◌}
use Rattle.std.proofs.lemmas.Bool.{lt-ltb}
use Rattle.event.specs.declared.counts.Counts.{Counts}
use Rattle.event.specs.declared.fault.CallerFault.{CallerFault}
use Rattle.event.specs.declared.fault.CallerFault.TheVariants.{Thread}
use Rattle.event.specs.declared.record.Event.{Event}
use Rattle.keeper.specs.Telling.{undeclared, unless, asking}
use Rattle.order.specs.Marks.{entry}

-- a good answer is the entry
pub answered : (c : Counts) (es : List Event) (t u known : ℕ) → Ok known ≡ asking c es t u → known ≡ entry es t u
answered c es t u known h = go (undeclared c t u) h
  where
    go : (o : Option CallerFault) → Ok known ≡ unless o (entry es t u) → known ≡ entry es t u
    go None e = cc
    go (Some f) e = cc

-- nothing is refused of threads that are declared
pub none_refused : (c : Counts) (t u : ℕ) (f : CallerFault) → t < c.threads → u < c.threads → Some f ≡ undeclared c t u → ⊥
none_refused c t u f p q h =
    let none : undeclared c t u ≡ None = λ i. cond (lt-ltb _ _ p i) (cond (lt-ltb _ _ q i) None (Some (Thread u))) (Some (Thread t)) in
    let clash : Some f ≡ None = h ∙ none in
    cc

-- Events that the rules accept one after another.
use Rattle.std.proofs.Common.{◌≡◌, true, cond, List, [], ◌∷◌, Ok, Err, ◌∙◌}
use Rattle.event.specs.declared.record.Event.{Event}
use Rattle.format.specs.declared.kinds.ObjectKind.{ObjectKind}
use Rattle.format.specs.declared.fault.OrderFault.{OrderFault}
use Rattle.format.specs.declared.fault.OrderFault.TheVariants.{Mutex as BadMutex, Life as BadLife}
use Rattle.format.specs.Standings.{Standing, lives, locks, moved, stepped}
use Rattle.format.proofs.Steps.{ok_ok, if_ok, ok_if}

abbrev pub Accepts : List ObjectKind → Standing → List Event → Type 0
Accepts ks s [] = Unit {0}
Accepts ks s (e ∷ es) = (lives s.stages e ≡ true) × (locks ks s.holders e ≡ true) × Accepts ks (moved s e) es

pub stepped_ok : (ks : List ObjectKind) (s : Standing) (e : Event) (z : Standing) → stepped ks s e ≡ Ok z → (lives s.stages e ≡ true) × (locks ks s.holders e ≡ true) × (moved s e ≡ z)
stepped_ok ks s e z h =
    let a = if_ok (lives s.stages e) (cond (locks ks s.holders e) (Ok (moved s e)) (Err (BadMutex e.place))) (BadLife e.place) z h in
    let b = if_ok (locks ks s.holders e) (Ok (moved s e)) (BadMutex e.place) z a.1 in
    (a.0, b.0, ok_ok {E = OrderFault} (moved s e) z b.1)

pub ok_stepped : (ks : List ObjectKind) (s : Standing) (e : Event) → lives s.stages e ≡ true → locks ks s.holders e ≡ true → stepped ks s e ≡ Ok (moved s e)
ok_stepped ks s e p q =
    ok_if (lives s.stages e) (cond (locks ks s.holders e) (Ok (moved s e)) (Err (BadMutex e.place))) (BadLife e.place) p
    ∙ ok_if (locks ks s.holders e) (Ok (moved s e)) (BadMutex e.place) q

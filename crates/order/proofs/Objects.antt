-- The test of two objects.
use Rattle.std.proofs.Common.{◌≡◌, true, sym, refl, ap, ◌∙◌, eq-eqb, eqb-true}
use borrow.Author.Tests.{clash}
use Rattle.event.specs.declared.object.Object.{Object}
use Rattle.event.specs.declared.object.Object.TheVariants.{Declared, Start, Finish}
use Rattle.order.specs.Stamps.{same_object}

pub same_object_true : (a b : Object) → same_object a b ≡ true → a ≡ b
same_object_true (Declared a) (Declared b) p = ap Declared (eqb-true a b p)
same_object_true (Declared a) (Start b) p = absurd (clash p)
same_object_true (Declared a) (Finish b) p = absurd (clash p)
same_object_true (Start a) (Declared b) p = absurd (clash p)
same_object_true (Start a) (Start b) p = ap Start (eqb-true a b p)
same_object_true (Start a) (Finish b) p = absurd (clash p)
same_object_true (Finish a) (Declared b) p = absurd (clash p)
same_object_true (Finish a) (Start b) p = absurd (clash p)
same_object_true (Finish a) (Finish b) p = ap Finish (eqb-true a b p)

same_object_self : (a : Object) → same_object a a ≡ true
same_object_self (Declared a) = eq-eqb a a refl
same_object_self (Start a) = eq-eqb a a refl
same_object_self (Finish a) = eq-eqb a a refl

pub same_object_eq : (a b : Object) → a ≡ b → same_object a b ≡ true
same_object_eq a b p = ap (λ o. same_object a o) (sym p) ∙ same_object_self a

-- Equality of letters is decided.
use Rattle.std.proofs.Common.{◌≡◌, ℕ, cond, eqb, sym, refl, ap, ◌∙◌}
use native.Mathlib.Decide.{map_dec, ℕ_discrete}
use Rattle.event.specs.declared.letter.Letter.{Letter}
use Rattle.event.specs.declared.letter.Letter.TheVariants.{Read, Write, Acquire, Release, Fork, Join, Begin, End, Strong, Weak, Downgrade, Stop}

abbrev code : Letter → ℕ
code Read = 0
code Write = 1
code Acquire = 2
code Release = 3
code Fork = 4
code Join = 5
code Begin = 6
code End = 7
code Strong = 8
code Weak = 9
code Downgrade = 10
code Stop = 11

abbrev letter_of : ℕ → Letter
letter_of n =
    cond (eqb n 0) Read (cond (eqb n 1) Write (cond (eqb n 2) Acquire (cond (eqb n 3) Release (cond (eqb n 4) Fork (cond (eqb n 5) Join (cond (eqb n 6) Begin (cond (eqb n 7) End (cond (eqb n 8) Strong (cond (eqb n 9) Weak (cond (eqb n 10) Downgrade Stop))))))))))

back : (l : Letter) → letter_of (code l) ≡ l
back Read = refl
back Write = refl
back Acquire = refl
back Release = refl
back Fork = refl
back Join = refl
back Begin = refl
back End = refl
back Strong = refl
back Weak = refl
back Downgrade = refl
back Stop = refl

pub letter_discrete : (l m : Letter) → Dec (l ≡ m)
letter_discrete l m = map_dec (λ p. sym (back l) ∙ ap letter_of p ∙ back m) (ap code) (ℕ_discrete (code l) (code m))

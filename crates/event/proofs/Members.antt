-- What holds of each element of a list holds of what is in it.
use Rattle.std.proofs.Common.{List, [], ◌∷◌, sym, subst, ⊎_elim}
use mathlib.Core.List.Memᴰ
use mathlib.Core.List.{Memᴰ}
use Rattle.std.specs.List.{AllByRecursion}

pub every_in : {X : Type 0} (P : X → Type 0) (L : List X) → AllByRecursion P L → {x : X} → Memᴰ x L → P x
every_in P [] h m = absurd (Memᴰ.not-nil m)
every_in P (y ∷ L) h m = ⊎_elim (λ s. subst P (sym s) h.0) (λ n. every_in P L h.1 n) (Memᴰ.cases_cons m)

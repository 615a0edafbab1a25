-- What is said of an input, whichever way the listing ends.
use Rattle.std.proofs.Common.{◌≡◌, ℕ, List, Ok, Err, Result, sym, subst}
use Rattle.output.specs.declared.failure.Failure.{Failure}
use Rattle.output.specs.declared.failure.Failure.TheVariants.{Refused, Memory}
use Rattle.output.specs.Listings.{Says}
use Rattle.output.specs.Words.{Said}

module _ {V : Type 0} (bytes : V → List ℕ) where
  -- what is known of the one thing that is said, is known of what is said
  pub says_that : (P : Said → Type 0) (s : Said) (r : Result V Failure) → P s → Says bytes (λ x. x ≡ s) r → Says bytes P r
  says_that P s (Ok v) h e = subst P (sym e) h
  says_that P s (Err (Refused f)) h e = subst P (sym e) h
  says_that P s (Err Memory) h e = tt

  -- and so is what follows from it
  pub says_more : (P Q : Said → Type 0) (r : Result V Failure) → ((s : Said) → P s → Q s) → Says bytes P r → Says bytes Q r
  says_more P Q (Ok v) f h = f _ h
  says_more P Q (Err (Refused f')) f h = f _ h
  says_more P Q (Err Memory) f h = tt

-- What is known of a filter that was made over a source.
use Rattle.std.proofs.Common.{◌≡◌, Bool, true, false, cond, Ok, Err, Result, sym, refl, subst}
use Rattle.std.specs.Prelude.{IfOk, MatchResult}
use Rattle.std.specs.Result.{result_map_both}
use Rattle.event.specs.declared.fault.CallerFault.{CallerFault}
use Rattle.source.specs.declared.refusal.Refusal.{Refusal}
use Rattle.source.specs.declared.sieve.Sieve.{Sieve}

-- of an answer that is given where a test is true
pub ok_if : {T E : Type 0} (P : T → Type 0) (b : Bool) (x : T) (y : E) → (b ≡ true → P x) → IfOk (cond b (Ok x) (Err y)) P
ok_if P true x y h = h refl
ok_if P false x y h = tt

-- what holds of the test that was asked for, over the source below, holds of the filter's test over the filter's source
pub made : {S P : Type 0} (holds : S → P → Type 0) (below : S) (asked : Result P CallerFault) (r : Result (Sieve S P) (Refusal S)) → result_map_both (λ f. f.passing) (λ x. x.fault) r ≡ asked → MatchResult r (λ f. f.below ≡ below) (λ x. x.below ≡ below) → IfOk asked (holds below) → IfOk r (λ f. holds f.below f.passing)
made holds below asked (Ok f) a b h = subst (λ s. holds s f.passing) (sym b) (subst (λ x. IfOk x (holds below)) (sym a) h)
made holds below asked (Err x) a b h = tt

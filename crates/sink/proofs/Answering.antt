-- What a caller concludes from a sink's answer, whichever it is.
use Rattle.std.proofs.Common.{◌≡◌, ℕ, ◌+◌, ◌≤◌, Bool, true, false, cond, ltb, is_ok, is_err, Ok, Err, Decides, Result, refl, ap, arith, ltb-false, ltb-true}
use borrow.Author.Tests.{clash}
use Rattle.event.specs.declared.fault.CallerFault.{CallerFault}
use Rattle.event.specs.declared.fault.CallerFault.TheVariants.{Sink}
use Rattle.sink.specs.declared.pair.Pair.{Pair}
use Rattle.sink.specs.Taking.{Takes, taking}

module _ {S R : Type 0} {capacity taken : S → ℕ} {log : S → R} {step : R → Pair → R} {before after : S} {p : Pair} where
  -- the record after: one step further, or as it was
  pub takes_log : (r : Result (Unit {0}) CallerFault) → Takes capacity taken log step before after p r → log after ≡ cond (is_ok r) (step (log before) p) (log before)
  takes_log (Ok u) t = t.stepped
  takes_log (Err f) t = ap log t.kept

  -- how many are taken after: one more, or as many
  pub takes_taken : (r : Result (Unit {0}) CallerFault) → Takes capacity taken log step before after p r → taken after ≡ cond (is_ok r) (taken before + 1) (taken before)
  takes_taken (Ok u) t = t.more
  takes_taken (Err f) t = ap taken t.kept

by_room : (c t : ℕ) → t ≤ c → (b : Bool) → ltb t c ≡ b → Decides (is_err {T = Unit {0}} {E = CallerFault} (cond b (Ok (tt {0})) (Err (Sink c)))) (t ≡ c)
by_room c t fits true e = ((λ q. absurd (clash q)), (λ q. absurd (omega (arith, ltb-true t c e))))
by_room c t fits false e = ((λ _. omega (arith, ltb-false t c e)), (λ _. refl))

-- A sink that has taken no more than its capacity refuses exactly if it has taken as many.
pub refuses_when_full_lem : (c t : ℕ) → t ≤ c → Decides (is_err (taking c t)) (t ≡ c)
refuses_when_full_lem c t fits = by_room c t fits (ltb t c) refl

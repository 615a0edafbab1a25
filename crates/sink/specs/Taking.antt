-- What taking does to a sink's meaning: its capacity, how many it has taken, and its record.
use Rattle.std.specs.Prelude.{◌≡◌, ℕ, ◌+◌, cond, IfOk, IfErr, Ok, Err, Result, nat_lt}
use Rattle.event.specs.declared.fault.CallerFault.{CallerFault}
use Rattle.event.specs.declared.fault.CallerFault.TheVariants.{Sink}
use Rattle.sink.specs.declared.pair.Pair.{Pair}

-- the answer of a sink that has taken so many: refused where they are as many as its capacity
abbrev pub taking : ℕ → ℕ → Result (Unit {0}) CallerFault
taking capacity taken = cond (nat_lt taken capacity) (Ok tt) (Err (Sink capacity))

module _ {S R : Type 0} (capacity taken : S → ℕ) (log : S → R) (step : R → Pair → R) where
  -- One more is taken, and the record goes one step further. A refusal changes nothing.
  pub record Takes (before after : S) (p : Pair) (r : Result (Unit {0}) CallerFault) : Type 0 where
    pub answer : r ≡ taking (capacity before) (taken before)
    pub more : IfOk r (λ _. taken after ≡ taken before + 1)
    pub stepped : IfOk r (λ _. log after ≡ step (log before) p)
    pub kept : IfErr r (λ _. after ≡ before)
    pub same_capacity : capacity after ≡ capacity before

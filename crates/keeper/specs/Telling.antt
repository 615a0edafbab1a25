-- What a keeper answers: to a clearing, to a telling and to a question.
use Rattle.std.specs.Prelude.{ℕ, ◌≤◌, cond, List, length, Some, None, Ok, Err, Option, Result, nat_lt}
use Rattle.std.specs.Result.{result_err}
use Rattle.event.specs.declared.counts.Counts.{Counts}
use Rattle.event.specs.declared.fault.CallerFault.{CallerFault}
use Rattle.event.specs.declared.fault.CallerFault.TheVariants.{Thread}
use Rattle.event.specs.declared.record.Event.{Event}
pub use Rattle.event.specs.Intakes.{last_place, follows, admitting}
use Rattle.event.specs.Thins.{Sound}
use Rattle.order.specs.Marks.{entry}
use Rattle.stamp.specs.Slots.{unless_lacking}

-- a list that a keeper of these counts and this capacity can have been told
pub record Fits (c : Counts) (capacity : ℕ) (es : List Event) : Type 0 where
  pub sound : Sound c es
  pub few : length es ≤ capacity

-- the answer to a clearing: refused where a table is too small, by the size needed
abbrev pub clearing : Option ℕ → Result (Unit {0}) CallerFault
clearing lacks = unless_lacking lacks (Ok tt)

-- the answer to a telling after the events es
abbrev pub telling : Counts → ℕ → List Event → Event → Result (Unit {0}) CallerFault
telling c capacity es e = admitting c capacity (length es) (last_place es) e

-- the first of two threads that is not declared
abbrev pub undeclared : Counts → ℕ → ℕ → Option CallerFault
undeclared c t u = cond (nat_lt t c.threads) (cond (nat_lt u c.threads) None (Some (Thread u))) (Some (Thread t))

-- an answer, unless something is refused
abbrev pub unless : {A : Type 0} → Option CallerFault → A → Result A CallerFault
unless None a = Ok a
unless (Some f) a = Err f

-- the answer to a question after the events es
abbrev pub asking : Counts → List Event → ℕ → ℕ → Result ℕ CallerFault
asking c es t u = unless (undeclared c t u) (entry es t u)

-- the refusal in an answer
abbrev pub fault_of : {A : Type 0} → Result A CallerFault → Option CallerFault
fault_of r = result_err r

-- What each call of a keeper does to its meaning: its counts, its capacity, the tables that it lacks room in, and the lists of events that it
-- may have been told.
use Rattle.std.specs.Prelude.{◌≡◌, ℕ, List, [], ◌∷◌, ◌++◌, IfOk, IfErr, Option, Result}
use Rattle.event.specs.declared.counts.Counts.{Counts}
use Rattle.event.specs.declared.fault.CallerFault.{CallerFault}
use Rattle.event.specs.declared.record.Event.{Event}
use Rattle.event.specs.Entries.{IsEntry}
use Rattle.keeper.specs.Telling.{clearing, telling, undeclared, asking, fault_of}

module _ {K : Type 0} (counts : K → Counts) (capacity : K → ℕ) (lacks : K → Counts → Option ℕ) (told : K → List Event → Type 0) where
  -- A clearing takes new counts, and leaves the empty list. It is refused exactly where a table is too small for them.
  pub record Clears (before after : K) (fresh : Counts) (r : Result (Unit {0}) CallerFault) : Type 0 where
    pub answer : r ≡ clearing (lacks before fresh)
    pub now_counts : IfOk r (λ _. counts after ≡ fresh)
    pub empty : IfOk r (λ _. told after [])
    pub kept : IfErr r (λ _. after ≡ before)
    pub same_capacity : capacity after ≡ capacity before
    pub same_tables : (c : Counts) → lacks after c ≡ lacks before c

  -- A telling appends the event, to each list that may have been told, or is refused as each of them asks for.
  pub record Tells (before after : K) (e : Event) (r : Result (Unit {0}) CallerFault) : Type 0 where
    pub answer : (es : List Event) → told before es → r ≡ telling (counts before) (capacity before) es e
    pub more : IfOk r (λ _. (es : List Event) → told before es → told after (es ++ e ∷ []))
    pub kept : IfErr r (λ _. after ≡ before)
    pub same_counts : counts after ≡ counts before
    pub same_capacity : capacity after ≡ capacity before
    pub same_tables : (c : Counts) → lacks after c ≡ lacks before c

  -- A question is refused only for a thread that is not declared. Its answer is the entry of t for u, in each list that may have been told.
  pub record Asks (keeper : K) (t u : ℕ) (r : Result ℕ CallerFault) : Type 0 where
    pub undeclared_only : fault_of r ≡ undeclared (counts keeper) t u
    pub answer : (es : List Event) → told keeper es → r ≡ asking (counts keeper) es t u
    pub entry : IfOk r (λ n. (es : List Event) → told keeper es → IsEntry es t u n)

-- Levels after one event more, and which levels an event leaves alone.
use Rattle.std.proofs.Common.{rules, ◌≡◌, ℕ, suc, ◌<◌, true, false, cond, ◌&&◌, eqb, List, [], ◌∷◌, ◌++◌, length, get_or, take, sym, refl, ap, ◌∙◌, add-one}
use Rattle.std.specs.List.{AllByRecursion}
use Rattle.std.proofs.lemmas.List.{take_more}
use Rattle.event.specs.declared.counts.Counts.{Counts}
use Rattle.event.specs.declared.letter.Letter.{Letter}
use Rattle.event.specs.declared.record.Event.{Event}
use Rattle.event.specs.Ranges.{limit}
use Rattle.event.specs.Thins.{Placed}
use Rattle.monitor.specs.declared.level.Level.{Level}
use Rattle.monitor.specs.declared.level.Level.TheVariants.{None as none}
use Rattle.monitor.specs.Levels.{after, after_event, level_from, level, level_at}
use Rattle.monitor.specs.Looks.{monitors}
use Rattle.monitor.specs.Placement.{blank}

level_from_push : (l : Level) (L : List Event) (e : Event) (t v : ℕ) → level_from l (L ++ e ∷ []) t v ≡ after_event t v (level_from l L t v) e
level_from_push l [] e t v = refl
level_from_push l (x ∷ L) e t v = level_from_push (after_event t v l x) L e t v

pub level_push : (L : List Event) (e : Event) (t v : ℕ) → level (L ++ e ∷ []) t v ≡ after_event t v (level L t v) e
level_push L e t v = level_from_push _ L e t v

pub take_next : (L : List Event) (k : ℕ) → k < length L → take (suc k) L ≡ take k L ++ get_or L k blank ∷ []
take_next L k lt = ap (λ n. take n L) (sym (add-one k)) ∙ take_more L k blank lt

pub level_next : (L : List Event) (k : ℕ) → k < length L → (t v : ℕ) → level_at L (suc k) t v ≡ after_event t v (level_at L k t v) (get_or L k blank)
level_next L k lt t v = ap (λ M. level M t v) (take_next L k lt) ∙ level_push (take k L) (get_or L k blank) t v

pub keeps_other : (e : Event) (t v : ℕ) (l : Level) → monitors e.letter ≡ false → after_event t v l e ≡ l
keeps_other = search rules

-- and an event leaves the levels of other threads
pub keeps_thread : (e : Event) (t v : ℕ) (l : Level) → eqb e.thread t ≡ false → after_event t v l e ≡ l
keeps_thread e t v l h = λ i. cond (h i && eqb e.number v) (after e.letter l) l

-- a level is set of a variable
pub monitors_limit : (c : Counts) (a : Letter) → monitors a ≡ true → limit c a ≡ c.variables
monitors_limit = search rules

-- a level of a thread or a variable that is not declared is never set
never_set : (c : Counts) (e : Event) (t v : ℕ) → Placed c e → (t < c.threads → v < c.variables → ⊥) → after_event t v none e ≡ none
never_set = search rules

pub level_outside : (c : Counts) (L : List Event) (t v : ℕ) → AllByRecursion (Placed c) L → (t < c.threads → v < c.variables → ⊥) → level L t v ≡ none
level_outside c [] t v placed out = refl
level_outside c (e ∷ L) t v placed out = ap (λ l. level_from l L t v) (never_set c e t v placed.0 out) ∙ level_outside c L t v placed.1 out

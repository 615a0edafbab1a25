-- Chains and entries as functions that compute.
use Rattle.std.specs.Prelude.{ℕ, suc, max, Bool, true, false, cond, ◌&&◌, ◌||◌, List, [], ◌∷◌, Some, None, Option, ◌==◌, nat_le}
use Rattle.event.specs.declared.object.Object.{Object}
use Rattle.event.specs.declared.record.Event.{Event}
use Rattle.event.specs.Objects.{released, acquired}
use Rattle.order.specs.Stamps.{same_object, deeds, run, fresh}

-- the one is released, and the other, the same, acquired
abbrev pub passes : Option Object → Option Object → Bool
passes None a = false
passes (Some o) None = false
passes (Some o) (Some p) = same_object o p

abbrev pub links : Event → Event → Bool
links e f = e.thread == f.thread || passes (released e) (acquired f)

abbrev pub one_links : List Event → Event → Bool
one_links [] g = false
one_links (m ∷ M) g = links m g || one_links M g

-- with M reached so far: the events to which a chain leads from the event at the place p
abbrev pub marked : ℕ → List Event → List Event → List Event
marked p M [] = M
marked p M (g ∷ L) = marked p (cond (p == g.place || one_links M g) (g ∷ M) M) L

abbrev pub has_place : ℕ → List Event → Bool
has_place p [] = false
has_place p (g ∷ L) = p == g.place || has_place p L

-- does a chain lead from the event at p to the event at q?
abbrev pub chained : List Event → ℕ → ℕ → Bool
chained L p q = has_place q (marked p [] L)

abbrev pub has_thread : ℕ → List Event → Bool
has_thread t [] = false
has_thread t (g ∷ L) = g.thread == t || has_thread t L

-- does a chain lead from the event at p to an event of the thread t?
abbrev pub reaches : List Event → ℕ → ℕ → Bool
reaches L p t = has_thread t (marked p [] L)

-- clocks: for each thread a number
abbrev pub Clock : Type 0
Clock = ℕ → ℕ

-- what an event contributes: one more than its place, for its own thread
abbrev pub tick : Event → Clock
tick e = λ u. cond (e.thread == u) (suc e.place) 0

abbrev pub larger : Clock → Clock → Clock
larger c d = λ u. max (c u) (d u)

abbrev pub zeros : Clock
zeros = λ u. 0

-- one more than the latest place of u that t knows of
abbrev pub entry : List Event → ℕ → ℕ → ℕ
entry L t u = (run larger (fresh zeros) (deeds tick L)).threads t u

-- do the places rise strictly, from p on?
abbrev pub rises_from : ℕ → List Event → Bool
rises_from p [] = true
rises_from p (e ∷ L) = nat_le p e.place && rises_from (suc e.place) L

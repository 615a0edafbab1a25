-- The findings of a run, as a list that computes.
use Rattle.std.specs.Prelude.{ℕ, zero, suc, cond, List, [], ◌∷◌, ◌++◌, Some, None, Option, ◌==◌, nat_lt}
use Rattle.event.specs.declared.record.Event.{Event}
use Rattle.event.specs.Thins.{access}
use Rattle.order.specs.Marks.{entry}
use Rattle.order.specs.Runs.{Two}
use Rattle.finds.specs.Latest.{is_write_letter, is_read, latest}

-- j against the access i of another thread, unless that is among the places below `known`, which lead to j
abbrev pub unless_known : ℕ → Event → Option Event → List Two
unless_known known j None = []
unless_known known j (Some i) = cond (nat_lt i.place known) [] ((i, j) ∷ [])

-- j against another thread's latest write, and then, if j writes, against its latest read
abbrev pub against : ℕ → Event → Option Event → Option Event → List Two
against known j w r = unless_known known j w ++ cond (is_write_letter j.letter) (unless_known known j r) []

-- j against the thread u, of which the places below `known` lead to j, after the events T
abbrev pub against_one : ℕ → List Event → Event → ℕ → List Two
against_one known T j u = cond (u == j.thread) [] (against known j (latest is_write_letter u j.number T) (latest is_read u j.number T))

-- j against the threads below n, in rising order
unfoldable pub against_below : ℕ → List Event → Event → List Two
against_below zero T j = []
against_below (suc u) T j = against_below u T j ++ against_one (entry (T ++ j ∷ []) j.thread u) T j u

-- what n threads find at j, told after T
abbrev pub found_at : ℕ → List Event → Event → List Two
found_at n T j = cond (access j) (against_below n T j) []

-- what they find at events that are told after others
abbrev pub found_after : ℕ → List Event → List Event → List Two
found_after n past [] = []
found_after n past (j ∷ T) = found_at n past j ++ found_after n (past ++ j ∷ []) T

-- what they find in all
abbrev pub found_all : ℕ → List Event → List Two
found_all n T = found_after n [] T

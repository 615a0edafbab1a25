-- Tables of stamps: what they mean, and what an event does to them.
use Rattle.std.specs.Prelude.{ℕ, ◌<◌, cond, List, [], ◌∷◌, ◌++◌, length, Some, None, Option, nat_lt, slice_index_or, slice_set}
use Rattle.std.specs.Option.{option_map}
use Rattle.event.specs.declared.counts.Counts.{Counts}
use Rattle.event.specs.declared.record.Event.{Event}
pub use Rattle.event.specs.Tables.{cleared}
use Rattle.event.specs.Objects.{acquired, released}
use Rattle.event.specs.Thins.{Rising}
use Rattle.order.specs.Stamps.{Deed, State, Sums, events}
use Rattle.stamp.specs.Slots.{slot, Declares}

-- the stamp of each thread and of each object, as the tables have them
abbrev pub stamped : {S : Type 0} → S → Counts → List S → List S → State S
stamped least c ts os = record { threads = λ t. slice_index_or ts t least; objects = λ o. slice_index_or os (slot c o) least }

-- The tables mean a list of events with their contributions: the stamp of each declared thread is the least upper bound of the contributions
-- of all events with a chain to its latest event, and the stamp of each object that of all events with a chain to a release of it.
abbrev pub Means : {S : Type 0} → (S → S → Type 0) → S → Counts → List (Deed S) → List S → List S → Type 0
Means below least c xs ts os = Sums below (λ t. t < c.threads) (Declares c) xs (stamped least c ts os)

-- one event more: the places have to rise
abbrev pub Adds : {S : Type 0} → (S → S → Type 0) → S → Counts → Event → S → List S → List S → List S → List S → Type 0
Adds {S} below least c e v ts os ts' os' =
    (xs : List (Deed S)) → Rising (events xs ++ e ∷ []) → Means below least c xs ts os → Means below least c (xs ++ record { event = e; gives = v } ∷ []) ts' os'

module _ {S : Type 0} (join : S → S → S) where
  -- the stamp s with that at a slot joined in
  abbrev pub joined_in : List S → Option ℕ → S → S
  joined_in os None s = s
  joined_in os (Some k) s = cond (nat_lt k (length os)) (join s (slice_index_or os k s)) s

  -- the table after s was joined into the stamp at a slot
  abbrev pub joined_into : List S → Option ℕ → S → List S
  joined_into os None s = os
  joined_into os (Some k) s = slice_set os k (join (slice_index_or os k s) s)

  -- the stamp of the event's thread after it
  abbrev pub stamp_after : S → Counts → List S → List S → Event → S → S
  stamp_after least c ts os e v = join (joined_in os (option_map (slot c) (acquired e)) (slice_index_or ts e.thread least)) v

  abbrev pub threads_after : S → Counts → List S → List S → Event → S → List S
  threads_after least c ts os e v = slice_set ts e.thread (stamp_after least c ts os e v)

  abbrev pub objects_after : S → Counts → List S → List S → Event → S → List S
  objects_after least c ts os e v = joined_into os (option_map (slot c) (released e)) (stamp_after least c ts os e v)

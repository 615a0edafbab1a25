-- A look at one thread at one moment: the accesses whose regions hold the moment stand between the thread's last release before the moment
-- and its first acquire after it.
use Rattle.std.specs.Prelude.{ℕ, ◌+◌, ◌-◌, Bool, true, false, cond, ◌&&◌, ◌||◌, List, [], ◌∷◌, map, take, drop, ◌==◌, nat_lt, slice_index_or, slice_set}
use Rattle.std.specs.List.{range_with_len}
use Rattle.event.specs.declared.counts.Counts.{Counts}
use Rattle.event.specs.declared.letter.Letter.{Letter}
use Rattle.event.specs.declared.letter.Letter.TheVariants.{Read, Write, Acquire, Release, Fork, Join, Begin, End, Strong, Weak, Downgrade, Stop}
use Rattle.event.specs.declared.record.Event.{Event}
use Rattle.event.specs.Objects.{released}
use Rattle.order.specs.Regions.{any_object}
use Rattle.monitor.specs.declared.level.Level.{Level}
use Rattle.monitor.specs.declared.level.Level.TheVariants.{None as none}
use Rattle.monitor.specs.Levels.{rank, higher, worth}
use Rattle.monitor.specs.Placement.{any_below}
use Rattle.monitor.specs.Regions.{acquires_of, releases_of, after_last, before_first}
use Rattle.monitor.specs.Tables.{slot}

abbrev pub monitors : Letter → Bool
monitors Read = false
monitors Write = false
monitors Acquire = false
monitors Release = false
monitors Fork = false
monitors Join = false
monitors Begin = false
monitors End = false
monitors Strong = true
monitors Weak = true
monitors Downgrade = true
monitors Stop = true

-- only a release, or an event that sets a level, can uncover a moment
abbrev pub can_uncover : Event → Bool
can_uncover e = any_object (released e) || monitors e.letter

-- from which index on, and up to which, an access of t has the moment k in its region
abbrev pub span_from : List Event → ℕ → ℕ → ℕ
span_from L t k = after_last (releases_of t) (take k L)

abbrev pub span_to : List Event → ℕ → ℕ → ℕ
span_to L t k = k + before_first (acquires_of t) (drop k L)

abbrev pub span : List Event → ℕ → ℕ → List Event
span L t k = take (span_to L t k - span_from L t k) (drop (span_from L t k) L)

-- the highest level that an access of t to v among the events fits, and that before them
abbrev pub mark_from : Level → ℕ → ℕ → List Event → Level
mark_from l t v [] = l
mark_from l t v (e ∷ M) = mark_from (cond (e.thread == t && e.number == v) (higher l (worth e.letter)) l) t v M

abbrev pub mark : ℕ → ℕ → List Event → Level
mark t v M = mark_from none t v M

-- the mark of a variable raised to a level
abbrev pub raised : List Level → ℕ → Level → List Level
raised ms v l = slice_set ms v (higher (slice_index_or ms v none) l)

-- the marks of all variables that there can be
abbrev pub marks_of : ℕ → List Event → List Level
marks_of t M = map (λ v. mark t v M) (range_with_len 0 256)

-- a level of the thread t is above the mark of its variable
abbrev pub row_bare : Counts → List Level → ℕ → List Level → Bool
row_bare c levels t ms = any_below c.variables (λ v. nat_lt (rank (slice_index_or ms v none)) (rank (slice_index_or levels (slot c t v) none)))

abbrev pub thread_bare : Counts → List Event → ℕ → ℕ → List Level → Bool
thread_bare c L k t levels = row_bare c levels t (marks_of t (span L t k))

-- Small traces, each for one thing that a checker can get wrong. An event is written as its thread, its letter and its number; places are the indices.
use Rattle.std.specs.Prelude.{ℕ, suc, List, [], ◌∷◌}
use Rattle.event.specs.declared.letter.Letter.{Letter}
use Rattle.event.specs.declared.letter.Letter.TheVariants.{Read, Write, Acquire, Release, Fork, Begin, Strong, Weak, Stop}
use Rattle.event.specs.declared.record.Event.{Event}

-- a thread, a letter and a number
pub record Deed : Type 0 where
  pub thread : ℕ
  pub letter : Letter
  pub number : ℕ

abbrev pub does : ℕ → Letter → ℕ → Deed
does t l n = record { thread = t; letter = l; number = n }

abbrev pub placed : ℕ → List Deed → List Event
placed i [] = []
placed i (d ∷ ds) = record { place = i; thread = d.thread; letter = d.letter; number = d.number; region = 0 } ∷ placed (suc i) ds

abbrev pub trace : List Deed → List Event
trace ds = placed 0 ds

-- two threads touch one variable, sometimes under a mutex and sometimes not
abbrev pub setpoint : List Event
setpoint = trace (does 0 Fork 1 ∷ does 1 Begin 1 ∷ does 0 Acquire 0 ∷ does 0 Write 0 ∷ does 0 Release 0 ∷ does 1 Read 0 ∷ does 1 Acquire 0 ∷ does 1 Write 0 ∷ does 1 Release 0 ∷ does 0 Write 0 ∷ [])

-- a write before the fork is ordered before the child's write
abbrev pub before_the_fork : List Event
before_the_fork = trace (does 0 Write 0 ∷ does 0 Fork 1 ∷ does 1 Begin 1 ∷ does 1 Write 0 ∷ [])

-- a write after the fork is not
abbrev pub after_the_fork : List Event
after_the_fork = trace (does 0 Fork 1 ∷ does 1 Begin 1 ∷ does 0 Write 0 ∷ does 1 Write 0 ∷ [])

-- two reads never race
abbrev pub two_reads : List Event
two_reads = trace (does 0 Fork 1 ∷ does 1 Begin 1 ∷ does 0 Read 0 ∷ does 1 Read 0 ∷ [])

-- a semaphore is released by two threads, and then acquired: both are ordered before what follows
abbrev pub two_givers : List Event
two_givers = trace (does 0 Fork 1 ∷ does 0 Fork 2 ∷ does 1 Begin 1 ∷ does 2 Begin 2 ∷ does 0 Write 0 ∷ does 0 Release 0 ∷ does 1 Release 0 ∷ does 2 Acquire 0 ∷ does 2 Read 0 ∷ [])

-- one write races with the reads of two threads
abbrev pub two_readers : List Event
two_readers = trace (does 0 Fork 1 ∷ does 0 Fork 2 ∷ does 1 Begin 1 ∷ does 2 Begin 2 ∷ does 0 Write 0 ∷ does 2 Read 0 ∷ does 1 Read 0 ∷ [])

-- a strong monitor around a write meets a weak one around a read
abbrev pub two_monitors : List Event
two_monitors = trace (does 0 Fork 1 ∷ does 1 Begin 1 ∷ does 0 Strong 0 ∷ does 0 Write 0 ∷ does 1 Weak 0 ∷ does 1 Read 0 ∷ does 0 Stop 0 ∷ does 1 Stop 0 ∷ [])

-- a strong monitor over an acquire and then a release: the regions of the two writes meet
abbrev pub acquire_then_release : List Event
acquire_then_release = trace (does 0 Strong 0 ∷ does 0 Write 0 ∷ does 0 Acquire 0 ∷ does 0 Release 0 ∷ does 0 Write 0 ∷ does 0 Stop 0 ∷ [])

-- the same over a release and then an acquire: between them no region holds
abbrev pub release_then_acquire : List Event
release_then_acquire = trace (does 0 Strong 0 ∷ does 0 Write 0 ∷ does 0 Release 0 ∷ does 0 Acquire 0 ∷ does 0 Write 0 ∷ does 0 Stop 0 ∷ [])

-- The rules of threads and mutexes as a reader applies them, event by event: how far each thread's life has come, and who holds each mutex.
use Rattle.std.specs.Prelude.{ℕ, zero, suc, ◌+◌, Bool, true, false, cond, List, [], ◌∷◌, map, drop, replicate, Some, None, Ok, Err, Option, Result, ◌==◌, slice_index_or, slice_set}
use Rattle.event.specs.declared.letter.Letter.{Letter}
use Rattle.event.specs.declared.letter.Letter.TheVariants.{Read, Write, Acquire, Release, Fork, Join, Begin, End, Strong, Weak, Downgrade, Stop}
use Rattle.event.specs.declared.record.Event.{Event}
use Rattle.event.specs.declared.counts.Counts.{Counts}
use Rattle.format.specs.declared.kinds.ObjectKind.{ObjectKind}
use Rattle.format.specs.declared.kinds.ObjectKind.TheVariants.{Mutex, Semaphore}
use Rattle.format.specs.declared.fault.OrderFault.{OrderFault}
use Rattle.format.specs.declared.fault.OrderFault.TheVariants.{Events, Mutex as BadMutex, Life as BadLife}
use Rattle.format.specs.declared.kinds.Stage.{Stage}
use Rattle.format.specs.declared.kinds.Stage.TheVariants.{Unborn, Forked, Running, Ended}
use Rattle.format.specs.Items.{Item, thread, object, variable}
use Rattle.format.specs.Parse.{map_ok, lift, and_then}
use Rattle.format.specs.Events.{read_event}

abbrev pub is_running : Stage → Bool
is_running Unborn = false
is_running Forked = false
is_running Running = true
is_running Ended = false

abbrev pub is_unborn : Stage → Bool
is_unborn Unborn = true
is_unborn Forked = false
is_unborn Running = false
is_unborn Ended = false

abbrev pub is_forked : Stage → Bool
is_forked Unborn = false
is_forked Forked = true
is_forked Running = false
is_forked Ended = false

abbrev pub is_ended : Stage → Bool
is_ended Unborn = false
is_ended Forked = false
is_ended Running = false
is_ended Ended = true

abbrev pub is_mutex : ObjectKind → Bool
is_mutex Mutex = true
is_mutex Semaphore = false

abbrev pub is_free : Option ℕ → Bool
is_free None = true
is_free (Some t) = false

abbrev pub is_holder : ℕ → Option ℕ → Bool
is_holder t None = false
is_holder t (Some u) = u == t

abbrev pub stage_at : List Stage → ℕ → Stage
stage_at ss t = slice_index_or ss t Unborn

abbrev pub holder_at : List (Option ℕ) → ℕ → Option ℕ
holder_at hs m = slice_index_or hs m None

abbrev pub kind_at : List ObjectKind → ℕ → ObjectKind
kind_at ks m = slice_index_or ks m Semaphore

-- whether an event of thread t with the number n keeps the rule of thread life
abbrev pub lives_by : Letter → ℕ → ℕ → List Stage → Bool
lives_by Read t n ss = is_running (stage_at ss t)
lives_by Write t n ss = is_running (stage_at ss t)
lives_by Acquire t n ss = is_running (stage_at ss t)
lives_by Release t n ss = is_running (stage_at ss t)
lives_by Fork t n ss = cond (is_running (stage_at ss t)) (is_unborn (stage_at ss n)) false
lives_by Join t n ss = cond (is_running (stage_at ss t)) (is_ended (stage_at ss n)) false
lives_by Begin t n ss = cond (n == t) (is_forked (stage_at ss t)) false
lives_by End t n ss = cond (n == t) (is_running (stage_at ss t)) false
lives_by Strong t n ss = is_running (stage_at ss t)
lives_by Weak t n ss = is_running (stage_at ss t)
lives_by Downgrade t n ss = is_running (stage_at ss t)
lives_by Stop t n ss = is_running (stage_at ss t)

-- the stages after the event
abbrev pub lived_by : Letter → ℕ → ℕ → List Stage → List Stage
lived_by Read t n ss = ss
lived_by Write t n ss = ss
lived_by Acquire t n ss = ss
lived_by Release t n ss = ss
lived_by Fork t n ss = slice_set ss n Forked
lived_by Join t n ss = ss
lived_by Begin t n ss = slice_set ss t Running
lived_by End t n ss = slice_set ss t Ended
lived_by Strong t n ss = ss
lived_by Weak t n ss = ss
lived_by Downgrade t n ss = ss
lived_by Stop t n ss = ss

-- whether the event keeps the mutex rule, with k the kind of the object that it names
abbrev pub locks_by : Letter → ℕ → ObjectKind → Option ℕ → Bool
locks_by Read t k h = true
locks_by Write t k h = true
locks_by Acquire t k h = cond (is_mutex k) (is_free h) true
locks_by Release t k h = cond (is_mutex k) (is_holder t h) true
locks_by Fork t k h = true
locks_by Join t k h = true
locks_by Begin t k h = true
locks_by End t k h = true
locks_by Strong t k h = true
locks_by Weak t k h = true
locks_by Downgrade t k h = true
locks_by Stop t k h = true

-- the holders after the event
abbrev pub locked_by : Letter → ℕ → ℕ → List (Option ℕ) → List (Option ℕ)
locked_by Read t n hs = hs
locked_by Write t n hs = hs
locked_by Acquire t n hs = slice_set hs n (Some t)
locked_by Release t n hs = slice_set hs n None
locked_by Fork t n hs = hs
locked_by Join t n hs = hs
locked_by Begin t n hs = hs
locked_by End t n hs = hs
locked_by Strong t n hs = hs
locked_by Weak t n hs = hs
locked_by Downgrade t n hs = hs
locked_by Stop t n hs = hs

pub record Standing : Type 0 where
  pub stages : List Stage
  pub holders : List (Option ℕ)

abbrev pub standing : List Stage → List (Option ℕ) → Standing
standing ss hs = record { stages = ss; holders = hs }

-- thread 0 runs, the others are unborn, and nobody holds a mutex
abbrev pub fresh : Standing
fresh = standing (Running ∷ replicate 15 Unborn) (replicate 512 None)

abbrev pub lives : List Stage → Event → Bool
lives ss e = lives_by e.letter e.thread e.number ss

abbrev pub lived : List Stage → Event → List Stage
lived ss e = lived_by e.letter e.thread e.number ss

abbrev pub locks : List ObjectKind → List (Option ℕ) → Event → Bool
locks ks hs e = locks_by e.letter e.thread (kind_at ks e.number) (holder_at hs e.number)

abbrev pub locked : List (Option ℕ) → Event → List (Option ℕ)
locked hs e = locked_by e.letter e.thread e.number hs

abbrev pub moved : Standing → Event → Standing
moved s e = standing (lived s.stages e) (locked s.holders e)

-- thread life is judged first
abbrev pub stepped : List ObjectKind → Standing → Event → Result Standing OrderFault
stepped ks s e =
    cond (lives s.stages e)
    (cond (locks ks s.holders e) (Ok (moved s e)) (Err (BadMutex e.place)))
    (Err (BadLife e.place))

-- n events that keep the rules, the first with the place i
abbrev pub ruled_from : List ObjectKind → Counts → Standing → ℕ → ℕ → List ℕ → Result (List Event) OrderFault
ruled_from ks c s i zero bs = Ok []
ruled_from ks c s i (suc n) bs =
    and_then (lift Events (read_event c i bs))
    (λ e. and_then (stepped ks s e) (λ z. map_ok (λ es. e ∷ es) (ruled_from ks c z (i + 1) n (drop 6 bs))))

abbrev pub kind_of : Item → ObjectKind
kind_of (thread n) = Semaphore
kind_of (object k n) = k
kind_of (variable n) = Semaphore

abbrev pub kinds_of : List Item → List ObjectKind
kinds_of is = map kind_of is

-- a table with the kinds written into it from the index i on
abbrev pub written : List ObjectKind → ℕ → List ObjectKind → List ObjectKind
written table i [] = table
written table i (k ∷ ks) = written (slice_set table i k) (i + 1) ks

-- the kinds as a table of 512, what is not declared being no mutex
abbrev pub kind_table : List ObjectKind → List ObjectKind
kind_table ks = written (replicate 512 Semaphore) 0 ks

-- What a sampler lets through.
use Rattle.std.specs.Prelude.{◌≡◌, ℕ, ◌+◌, ◌-◌, ◌%◌, Bool, true, cond, ◌&&◌, List, [], ◌∷◌, ◌++◌, replicate, Ok, Err, Result, ◌==◌, nat_le, nat_lt, slice_index}
use Rattle.event.specs.declared.fault.CallerFault.{CallerFault}
use Rattle.event.specs.declared.fault.CallerFault.TheVariants.{Sampling}
use Rattle.event.specs.declared.record.Event.{Event}
use Rattle.event.specs.Sieves.{sieved}
use Rattle.event.specs.Thins.{access}
use Rattle.source.specs.declared.sampler.Counters.{Counters}

-- how many of the events are accesses of the thread t
abbrev pub accesses_of : ℕ → List Event → ℕ
accesses_of t [] = 0
accesses_of t (e ∷ L) = cond (access e && e.thread == t) (1 + accesses_of t L) (accesses_of t L)

-- an access with the number c is let through
abbrev pub in_burst : ℕ → ℕ → ℕ → Bool
in_burst burst period c = nat_lt (c % period) burst

-- Every event that is no access, and of the accesses those whose number is in a burst: an access's number is how many accesses of its thread stand before it.
abbrev pub sampled : ℕ → ℕ → List Event → List Event
sampled burst period L = sieved (λ past e. cond (access e) (in_burst burst period (accesses_of e.thread past)) true) [] L

-- One event more is let through exactly if it is no access, or one of which c accesses of its thread stand before, with c mod period < burst.
abbrev pub AccessesAreNumberedByThread : Type 0
AccessesAreNumberedByThread =
    (burst period : ℕ) (past : List Event) (e : Event)
    → sampled burst period (past ++ e ∷ [])
    ≡ sampled burst period past ++ cond (access e) (cond (nat_lt (accesses_of e.thread past % period) burst) (e ∷ []) []) (e ∷ [])

-- counters that begin at 0, if 1 ≤ burst ≤ period ≤ 65,535
abbrev pub counters_for : ℕ → ℕ → Result Counters CallerFault
counters_for burst period =
    cond (nat_le 1 burst && (nat_le burst period && nat_le period 65535)) (Ok (record { burst = burst; last = period - 1; next = replicate 16 0 })) (Err Sampling)

-- whether counters let an event through that comes after these: its thread's numbers go on from the thread's counter
abbrev pub lets : Counters → List Event → Event → Bool
lets c past e = cond (access e) (in_burst c.burst (c.last + 1) (slice_index c.next e.thread + accesses_of e.thread past)) true

abbrev pub sampled_by : Counters → List Event → List Event
sampled_by c L = sieved (lets c) [] L

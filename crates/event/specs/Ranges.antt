-- Counts within their limits, and which threads and numbers are in range under them.
use Rattle.std.specs.Prelude.{ℕ, min, max, Bool, false, cond, Ok, Err, Result, nat_le, nat_lt}
use Rattle.std.proofs.Common.{arith}
use Rattle.event.specs.declared.counts.Counts.{Counts}
use Rattle.event.specs.declared.fault.CallerFault.{CallerFault}
use Rattle.event.specs.declared.fault.CallerFault.TheVariants.{Counts as BadCount}
use Rattle.event.specs.declared.letter.Letter.{Letter}
use Rattle.event.specs.declared.letter.Letter.TheVariants.{Read, Write, Acquire, Release, Fork, Join, Begin, End, Strong, Weak, Downgrade, Stop}
use Rattle.event.specs.declared.record.Event.{Event}

-- the counts within the limits that are nearest to these
abbrev pub nearest : ℕ → ℕ → ℕ → Counts
nearest t o v = record {
  threads = min (max t 1) 16;
  objects = min o 512;
  variables = min v 256;
  limits = (omega arith, omega arith, omega arith, omega arith);
}

-- these counts, or the first of them that is outside its limits
abbrev pub counted : ℕ → ℕ → ℕ → Result Counts CallerFault
counted t o v =
    cond (nat_le 1 t)
    (cond (nat_le t 16)
    (cond (nat_le o 512) (cond (nat_le v 256) (Ok (nearest t o v)) (Err (BadCount v))) (Err (BadCount o)))
    (Err (BadCount t)))
    (Err (BadCount t))

-- how many numbers a letter can have
abbrev pub limit : Counts → Letter → ℕ
limit c Read = c.variables
limit c Write = c.variables
limit c Acquire = c.objects
limit c Release = c.objects
limit c Fork = c.threads
limit c Join = c.threads
limit c Begin = c.threads
limit c End = c.threads
limit c Strong = c.variables
limit c Weak = c.variables
limit c Downgrade = c.variables
limit c Stop = c.variables

-- the event's thread and number are declared
abbrev pub in_range : Counts → Event → Bool
in_range c e = cond (nat_lt e.thread c.threads) (nat_lt e.number (limit c e.letter)) false

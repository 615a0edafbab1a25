-- Where an object's stamp stands in the table of objects: the declared ones, then the threads' starts, then their ends.
use Rattle.std.specs.Prelude.{ℕ, ◌+◌, ◌*◌, ◌<◌, cond, Some, None, Ok, Err, Option, Result, nat_lt}
use Rattle.event.specs.declared.counts.Counts.{Counts}
use Rattle.event.specs.declared.fault.CallerFault.{CallerFault}
use Rattle.event.specs.declared.fault.CallerFault.TheVariants.{Range, Table}
use Rattle.event.specs.declared.object.Object.{Object}
use Rattle.event.specs.declared.object.Object.TheVariants.{Declared, Start, Finish}
use Rattle.event.specs.declared.record.Event.{Event}
use Rattle.event.specs.Ranges.{in_range}

abbrev pub slot : Counts → Object → ℕ
slot c (Declared n) = n
slot c (Start t) = c.objects + t
slot c (Finish t) = c.objects + c.threads + t

-- an object that the counts have
abbrev pub Declares : Counts → Object → Type 0
Declares c (Declared n) = n < c.objects
Declares c (Start t) = t < c.threads
Declares c (Finish t) = t < c.threads

-- how many objects the counts have
abbrev pub slots : Counts → ℕ
slots c = c.objects + 2 * c.threads

-- the size needed of the first table that is too small, of m stamps for threads and n for objects
abbrev pub lacking : Counts → ℕ → ℕ → Option ℕ
lacking c m n = cond (nat_lt m c.threads) (Some c.threads) (cond (nat_lt n (slots c)) (Some (slots c)) None)

-- the answer of a call that wants the tables to be large enough
abbrev pub unless_lacking : Option ℕ → Result (Unit {0}) CallerFault → Result (Unit {0}) CallerFault
unless_lacking None r = r
unless_lacking (Some n) r = Err (Table n)

-- the answer of a start at tables of these sizes
abbrev pub starting : Counts → ℕ → ℕ → Result (Unit {0}) CallerFault
starting c m n = unless_lacking (lacking c m n) (Ok tt)

-- the answer of handing in an event at tables of these sizes
abbrev pub handing : Counts → ℕ → ℕ → Event → Result (Unit {0}) CallerFault
handing c m n e = unless_lacking (lacking c m n) (cond (in_range c e) (Ok tt) (Err (Range e.place)))

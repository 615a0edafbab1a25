-- The counts that an accepted trace answers are those of its contents.
use Rattle.std.proofs.Common.{◌≡◌, ℕ, ◌≤◌, min, max, List, length, IfOk, Ok, Err, Result, sym, ◌∙◌, arith}
use Rattle.format.specs.declared.fault.OrderFault.{OrderFault}
use Rattle.format.specs.Parse.{map_ok}
use Rattle.format.specs.Encode.{Lawful}
use Rattle.format.specs.Exact.{Answers}
use Rattle.trace.specs.declared.trace.Trace.{Trace}
use Rattle.trace.specs.Whole.{Laid, contents_of, count_in, Counted}

within : (low high n : ℕ) → low ≤ n → n ≤ high → min (max n low) high ≡ n
within low high n p q = omega arith

capped : (high n : ℕ) → n ≤ high → min n high ≡ n
capped high n p = omega arith

-- a lawful trace's counts are within their limits, so none is moved
pub counted : (t : Trace) → Laid t → Lawful (contents_of t) → length (contents_of t).events ≡ count_in t → Counted t
counted t l w e = record {
  threads = within 1 16 t.threads.count (omega (arith, w.some_threads, l.threads_count)) (omega (arith, w.few_threads, l.threads_count)) ∙ sym l.threads_count;
  objects = capped 512 t.objects.count (omega (arith, w.few_objects, l.objects_count)) ∙ sym l.objects_count;
  variables = capped 256 t.variables.count (omega (arith, w.few_variables, l.variables_count)) ∙ sym l.variables_count;
  events = sym e;
}

pub all_counted : (bs : List ℕ) (x : Result Trace OrderFault) → IfOk x Laid → IfOk x (λ t. length (contents_of t).events ≡ count_in t) → Answers bs (map_ok contents_of x) → IfOk x Counted
all_counted bs (Ok t) l e a = counted t l a.lawful e
all_counted bs (Err f) l e a = tt

-- What a trace that borrows from the file stands for.
use Rattle.std.specs.Prelude.{◌≡◌, ℕ, ◌+◌, ◌/◌, ◌≤◌, List, length, take}
use Rattle.event.specs.declared.counts.Counts.{Counts}
use Rattle.event.specs.Ranges.{nearest}
use Rattle.format.specs.Codes.{items_laid_out}
use Rattle.format.specs.Events.{got_events}
use Rattle.format.specs.Layout.{Layout, laid_as, size}
use Rattle.format.specs.Trace.{Contents, contents}
use Rattle.trace.specs.declared.trace.Trace.{Trace}
use Rattle.trace.specs.Section.{items_in, laid_in}

-- the bytes of its first events, as many as a file can have
abbrev pub block_in : Trace → List ℕ
block_in t = take 6000000 t.events.now

-- no more than that stand there
abbrev pub Few : Trace → Type 0
Few t = length t.events.now ≤ 6000000

-- how many events there are
abbrev pub count_in : Trace → ℕ
count_in t = length (block_in t) / 6

-- its sections and the bytes of its events
abbrev pub layout_of : Trace → Layout
layout_of t = laid_as (items_in t.threads) (items_in t.objects) (items_in t.variables) (count_in t, t.events.now)

-- Where the entries of a trace's file stand: three bytes, then each section's count of two bytes and its entries one after another.
pub record Laid (t : Trace) : Type 0 where
  pub threads_at : laid_in t.threads ≡ items_laid_out 5 (items_in t.threads)
  pub objects_at : laid_in t.objects ≡ items_laid_out (7 + size (items_in t.threads)) (items_in t.objects)
  pub variables_at : laid_in t.variables ≡ items_laid_out (9 + size (items_in t.threads) + size (items_in t.objects)) (items_in t.variables)
  pub threads_count : length (items_in t.threads) ≡ t.threads.count
  pub objects_count : length (items_in t.objects) ≡ t.objects.count
  pub variables_count : length (items_in t.variables) ≡ t.variables.count

-- how many of each are declared
abbrev pub counts_in : Trace → Counts
counts_in t = nearest t.threads.count t.objects.count t.variables.count

abbrev pub contents_of : Trace → Contents
contents_of t =
    contents (items_in t.threads) (items_in t.objects) (items_in t.variables)
    (got_events (counts_in t) 0 (count_in t) (block_in t))

-- the counts that a trace answers are those of its contents
pub record Counted (t : Trace) : Type 0 where
  pub threads : (counts_in t).threads ≡ length (contents_of t).threads
  pub objects : (counts_in t).objects ≡ length (contents_of t).objects
  pub variables : (counts_in t).variables ≡ length (contents_of t).variables
  pub events : count_in t ≡ length (contents_of t).events

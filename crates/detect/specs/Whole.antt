-- What a whole run does: the law of the library.
use Rattle.std.specs.Prelude.{◌≡◌, ℕ, ◌+◌, ◌-◌, ◌≤◌, min, List, [], length, take, drop, None, Option}
use mathlib.Core.List.{Memᴰ}
use Rattle.event.specs.declared.counts.Counts.{Counts}
use Rattle.event.specs.declared.record.Event.{Event}
use Rattle.event.specs.Order.{◌∈◌, Within, Chain, Race}
use Rattle.event.specs.Thins.{Thins}
use Rattle.finds.specs.Found.{found_all}
use Rattle.order.specs.Finds.{Alike}
use Rattle.order.specs.Runs.{Finds, Ran}
use Rattle.keeper.specs.declared.keeper.Keeper.{Ghosts as Keeping}
use Rattle.sink.specs.declared.sink.Sink.{Ghosts as Sinking}
use Rattle.source.specs.declared.source.Source.{Ghosts as Giving}
use Rattle.event.specs.Tables.{cleared}
use Rattle.detect.specs.Pairs.{pair_of}
use Rattle.detect.specs.Reports.{Offers}
use Rattle.detect.specs.Steps.{counts_of, rest_of}
use Rattle.detect.specs.Table.{size}
use Rattle.detect.specs.declared.run.Run.{Run}
use Rattle.detect.specs.declared.totals.Totals.{Totals}

-- a keeper and a table that were cleared for a run
pub record ClearsFor {K : Type 0} (k : Keeping K) (c : Counts) (keeper keeper' : K) (latest latest' : List (Option Event)) : Type 0 where
  pub empty : k.told keeper' []
  pub counts : k.counts keeper' ≡ c
  pub capacity : k.capacity keeper' ≡ k.capacity keeper
  pub tables : (d : Counts) → k.lacks keeper' d ≡ k.lacks keeper d
  pub long : size c ≤ length latest
  pub cleared_table : latest' ≡ cleared (size c) None latest

-- What a run that was told nothing does with a budget of events: it tells the first ones, as many as the budget and the keeper allow, and offers
-- what is found. The event that a full keeper refuses is taken from the source too.
pub record Goes {S K O : Type 0} (s : Giving S) (k : Keeping K) (o : Sinking O) (budget : ℕ) (was is : Run S K O) : Type 0 where
  pub told : List Event
  pub first_ones : told ≡ take (min budget (k.capacity was.keeper.now)) (rest_of s was)
  pub left : rest_of s is ≡ drop (min budget (k.capacity was.keeper.now + 1)) (rest_of s was)
  pub kept : k.told is.keeper.now told
  pub counts : k.counts is.keeper.now ≡ counts_of s was
  pub offers : Offers o was (found_all (counts_of s was).threads told) is

-- The law of a whole run over a source, a keeper and a sink, of which each is given before and after it.
pub record Whole {S K O : Type 0} (s : Giving S) (k : Keeping K) (o : Sinking O) (budget : ℕ) (source source' : S) (keeper keeper' : K) (sink sink' : O) (totals : Totals) : Type 0 where
  -- the events told: the first ones of the source's list, as many as the budget and the keeper's capacity allow
  pub told : List Event
  pub first_ones : told ≡ take (min budget (k.capacity keeper)) (s.rest source)
  -- the source is left with what follows; the event that a full keeper refused is gone too
  pub left : s.rest source' ≡ drop (min budget (k.capacity keeper + 1)) (s.rest source)
  pub keeper_told : k.told keeper' told
  -- For every whole list of which the source's list is a thinning, the findings are exactly the pairs of told accesses that race in it, with no
  -- told access of the earlier one's thread, variable and letter between, each once and in order. The sink took the first ones, as many as it had
  -- room for, each with a step of its record; the others were dropped, for it was full as each was offered.
  pub ran : Ran (λ l p. o.step l (pair_of p)) (s.rest source) told (o.capacity sink - o.taken sink) (o.log sink) (o.log sink') totals.found totals.written totals.dropped
  pub taken : o.taken sink' ≡ o.taken sink + totals.written
  -- where all its events are told: what this pile finds, a pile over the same whole list that holds all of its events and perhaps more, and tells
  -- them all, finds against the same thread and letter
  pub more_finds_more : (W Q : List Event) → Thins W (s.rest source) → Thins W Q → Within (s.rest source) Q → told ≡ s.rest source →
      (i j : Event) → Memᴰ (i, j) ran.findings → (x : Event) × Alike i x × Finds W Q x j
  -- with no filter a told access that races with an earlier one is found, against an access like that one
  pub races_are_found : (i j : Event) → j ∈ told → Race (s.rest source) i j → (x : Event) × Alike i x × Memᴰ (x, j) ran.findings
  -- accesses that a chain orders are never found
  pub ordered_never : (W : List Event) → Thins W (s.rest source) → (i j : Event) → Chain W i j → Memᴰ (i, j) ran.findings → ⊥
  -- what stays
  pub counts : s.counts source' ≡ s.counts source
  pub keeper_counts : k.counts keeper' ≡ s.counts source
  pub keeper_capacity : k.capacity keeper' ≡ k.capacity keeper
  pub keeper_tables : (c : Counts) → k.lacks keeper' c ≡ k.lacks keeper c
  pub sink_capacity : o.capacity sink' ≡ o.capacity sink

-- What it is to offer findings to a sink, one after another.
use Rattle.std.specs.Prelude.{◌≡◌, ℕ, ◌+◌, ◌-◌, ◌^◌, ◌≤◌, min, List, ◌++◌, length, take, fold, codes, decimal}
use Rattle.order.specs.Runs.{Two}
use Rattle.sink.specs.declared.sink.Sink.{Ghosts as Sinking}
use Rattle.detect.specs.Pairs.{pair_of}
use Rattle.detect.specs.declared.totals.Totals.{Totals}

-- what a counter can hold
abbrev pub most : ℕ
most = 2 ^ 64 - 1

-- a counter that went up by one, unless it was at its limit
abbrev pub counted : ℕ → ℕ
counted n = min (n + 1) most

-- Findings were offered in turn: the first ones, as many as there was room for, are written, each with a step of the sink's record, and the
-- others are dropped. The counters say how many, as far as they can hold it.
pub record Offered {R : Type 0} (step : R → Two → R) (capacity taken : ℕ) (log : R) (found written dropped : ℕ) (fs : List Two)
    (taken' : ℕ) (log' : R) (found' written' dropped' : ℕ) : Type 0 where
  pub all : found + length fs ≤ most → found' ≡ found + length fs
  pub took : taken' ≡ taken + min (capacity - taken) (length fs)
  pub wrote : written + length fs ≤ most → written' ≡ written + min (capacity - taken) (length fs)
  pub left : dropped + length fs ≤ most → dropped' ≡ dropped + (length fs - (capacity - taken))
  pub kept : log' ≡ fold step log (take (capacity - taken) fs)

-- as `found 3 written 3 dropped 0`
abbrev pub shown : Totals → List ℕ
shown t = codes "found " ++ (decimal t.found ++ (codes " written " ++ (decimal t.written ++ (codes " dropped " ++ decimal t.dropped))))

-- no finding yet
abbrev pub none : Totals
none = record { found = 0; written = 0; dropped = 0 }

-- findings were offered to a sink in turn, and counted
abbrev pub OffersTo : {O : Type 0} → Sinking O → O → Totals → List Two → O → Totals → Type 0
OffersTo o sink t fs sink' t' =
    Offered (λ l p. o.step l (pair_of p)) (o.capacity sink) (o.taken sink) (o.log sink) t.found t.written t.dropped fs
    (o.taken sink') (o.log sink') t'.found t'.written t'.dropped

-- the same, and the sink's capacity is as it was
pub record Offering {O : Type 0} (o : Sinking O) (sink : O) (t : Totals) (fs : List Two) (sink' : O) (t' : Totals) : Type 0 where
  pub capacity : o.capacity sink' ≡ o.capacity sink
  pub offers : OffersTo o sink t fs sink' t'

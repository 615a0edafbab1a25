-- What was offered from nothing on is what is reported.
use Rattle.std.proofs.Common.{◌≡◌, ℕ, ◌+◌, ◌-◌, ◌≤◌, min, List, length, take, fold, sym, refl, ap, ◌∙◌, arith}
use Rattle.std.proofs.lemmas.List.{take_min}
use Rattle.order.specs.Runs.{Two, Reported}
use Rattle.sink.specs.declared.sink.Sink.{Ghosts as Sinking}
use Rattle.detect.specs.Offers.{most, none, Offered, OffersTo}
use Rattle.detect.specs.Pairs.{pair_of}
use Rattle.detect.specs.declared.totals.Totals.{Totals}

-- what was offered from nothing is what is reported
pub reported : {R : Type 0} (step : R → Two → R) (capacity taken : ℕ) (before after : R) (fs : List Two) (f w d taken' found written dropped : ℕ) →
    Offered step capacity taken before f w d fs taken' after found written dropped → f ≡ 0 → w ≡ 0 → d ≡ 0 → length fs ≤ most →
    Reported step (capacity - taken) before after fs found written dropped × (taken' ≡ taken + written)
reported step capacity taken before after fs f w d taken' found written dropped h p q r few =
    let room = capacity - taken in
    let all = h.all (omega arith) in
    let wrote = h.wrote (omega arith) in
    let left = h.left (omega arith) in
    let first : written ≡ min room (length fs) = omega arith in (
      record {
        all = omega arith;
        sum = omega arith;
        first_ones = first;
        steps = h.kept ∙ ap (fold step before) (sym (take_min room fs) ∙ ap (λ n. take n fs) (sym first));
      },
      h.took ∙ ap (λ n. taken + n) (sym first),
    )

-- the same of a sink and of totals
pub reports : {O : Type 0} (o : Sinking O) (sink sink' : O) (fs : List Two) (t : Totals) → OffersTo o sink none fs sink' t → length fs ≤ most →
    Reported (λ l p. o.step l (pair_of p)) (o.capacity sink - o.taken sink) (o.log sink) (o.log sink') fs t.found t.written t.dropped × (o.taken sink' ≡ o.taken sink + t.written)
reports o sink sink' fs t h few = reported (λ l p. o.step l (pair_of p)) _ _ _ _ _ _ _ _ _ _ _ _ h refl refl refl few

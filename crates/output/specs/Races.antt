-- What the program `races` answers to its input.
use Rattle.std.specs.Prelude.{◌≡◌, ℕ, ◌-◌, min, false, List, ◌++◌, length, take}
use Rattle.std.specs.List.{flat_map}
use Rattle.event.specs.declared.record.Event.{Event}
use Rattle.order.specs.Runs.{Two, Lists}
use Rattle.sink.specs.Line.{line}
use Rattle.detect.specs.Pairs.{pair_of}
use Rattle.output.specs.Lines.{totals_text}
use Rattle.output.specs.Inputs.{Answers}
use Rattle.output.specs.Words.{Said}

-- a line for each of the first 3,000 findings, and the totals
abbrev pub report : List Two → List ℕ
report fs = flat_map (λ p. line (pair_of p)) (take 3000 fs) ++ totals_text (length fs) (min 3000 (length fs)) (length fs - 3000)

-- the text lists the races of the whole list of events: exactly the pairs of accesses that race with no access of the earlier one's thread, variable
-- and letter between them, in order
pub record RacesListed (L : List Event) (s : Said) : Type 0 where
  pub accepted : s.refused ≡ false
  pub findings : List Two
  pub exactly : Lists L L findings
  pub printed : s.text ≡ report findings

-- the races of the trace, or a refusal
abbrev pub AnswersRaces : List ℕ → Said → Type 0
AnswersRaces = Answers (λ c. RacesListed c.events)

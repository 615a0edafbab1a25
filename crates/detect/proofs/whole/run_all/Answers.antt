-- The run that was made has what was lent to it, and each lender has back what the run had at its end.
use Rattle.std.proofs.Common.{◌≡◌, length, drop, None, sym, ap, ◌∙◌, subst, rules}
use Rattle.event.specs.declared.counts.Counts.{Counts}
use Rattle.detect.specs.Steps.{counts_of}
use Rattle.detect.specs.Table.{size, starting}
use Rattle.detect.proofs.Going.{going_begun}
use Rattle.detect.proofs.Law.{whole_run, whole_as}
use Rattle.detect.proofs.Tabling.{cleared_spare}
use Rattle.detect.proofs.whole.run_all.Goals as goal

pub returns : goal.returns
returns g c =
    let s = g.S.Source in
    let k = g.K.Keeper in
    let was = c.new-run.result in
    let is = c.go.new.self in
    let lent = c.new-run.ensures.lent in
    let nothing = c.new-run.ensures.nothing in
    let keeps = c.go.ensures.keeps in
    let stops = c.end.ensures.0 in
    let counts = c.counts-counts.ensures in
    let cleared = c.in_ok-clear_for.ensures in
    let keeper = c.args.keeper.now in
    let latest = c.args.latest.now in
    let own : counts_of s was ≡ c.counts-counts.result = ap (λ r. s.counts r.now) lent.0 ∙ sym counts in
    let going = going_begun s k was c.counts-counts.result keeper c.clear_for.new.keeper latest c.clear_for.new.latest own (search rules) (search rules) cleared.cleared in
    let latest-spare : drop (size (s.counts c.args.source.now)) c.end.new.self.latest.now ≡ drop (size (s.counts c.args.source.now)) latest =
    ap (λ r. drop (size (s.counts c.args.source.now)) r.now) stops.latest
    ∙ subst (λ (d : Counts). drop (size d) is.latest.now ≡ drop (size d) was.latest.now) (ap (λ r. s.counts r.now) lent.0) keeps.spare
    ∙ ap (λ r. drop (size (s.counts c.args.source.now)) r.now) lent.2
    ∙ subst (λ (d : Counts). drop (size d) c.clear_for.new.latest ≡ drop (size d) latest) counts
    (ap (drop (size c.counts-counts.result)) cleared.cleared.cleared_table ∙ cleared_spare (size c.counts-counts.result) None latest cleared.cleared.long) in
    record {
      answer = cleared.answer ∙ ap (λ d. starting d (length latest) (k.lacks keeper d)) counts;
      ran =
          whole_as (search rules) (search rules) (search rules) (search rules) (search rules)
          (whole_run s k g.O.Sink c.args.budget was is keeper c.totals.result (search rules) (λ d. search rules) nothing.0 keeps (c.go.ensures.goes going nothing.1) (search rules));
      spare = search rules;
      kept = tt;
    }

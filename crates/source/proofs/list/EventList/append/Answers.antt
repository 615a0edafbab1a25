use Rattle.std.proofs.Common.{sym, subst}
use Rattle.event.specs.Thins.{Sound}
use Rattle.source.proofs.Fronts.{pushed, pushed_at}
use Rattle.source.proofs.list.EventList.append.Goals as goal

pub invariant_of-self-clause-sound : goal.invariant_of-self-clause-sound
invariant_of-self-clause-sound c =
    let l = c.args.self.now in
    ∣ subst (Sound l.counts) (sym (pushed l.table.now l.len c.args.e l.fits c.requires.room)) c.requires.sound ∣₁

pub returns : goal.returns
returns c =
    let l = c.args.self.now in
    let events = pushed l.table.now l.len c.args.e l.fits c.requires.room in
    let entries = pushed_at l.table.now l.len c.args.e l.fits c.requires.room in
    λ i. record { lender = l.table.ghost_name; counts = l.counts; events = events i; entries = entries i }

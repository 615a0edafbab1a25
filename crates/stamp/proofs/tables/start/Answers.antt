use Rattle.std.proofs.Common.{length, sym, ◌∙◌}
use Rattle.stamp.specs.Carrying.{means_none}
use Rattle.stamp.specs.Slotting.{started_fits}
use Rattle.stamp.proofs.tables.start.Goals as goal

pub returns-clause-law : goal.returns-clause-law
returns-clause-law g c =
    let ts = c.args.threads.now in
    let os = c.args.objects.now in
    let fits = started_fits c.args.counts (length ts) (length os) (sym c.in_ok-room.was ∙ c.room.ensures) in
    simp (c.clear.ensures, c.clear-2.ensures, c.threads.ensures, c.slots.ensures) (means_none g.met.S.Stamp.lawful c.args.counts ts os fits.0 fits.1)

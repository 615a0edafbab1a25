use Rattle.std.proofs.Common.{length, sym, ◌∙◌}
use Rattle.stamp.specs.Carrying.{adds}
use Rattle.stamp.specs.Slotting.{handed_fits}
use Rattle.stamp.proofs.tables.hand_in.Goals as goal

pub returns-clause-law : goal.returns-clause-law
returns-clause-law g c =
    let ts = c.args.threads.now in
    let os = c.args.objects.now in
    let fits = handed_fits c.args.counts (length ts) (length os) c.args.event (sym c.in_ok-takes.was ∙ c.takes.ensures) in
    simp (c.carry.ensures.threads, c.carry.ensures.objects) (adds g.met.S.Stamp.lawful c.args.counts ts os fits.0 fits.1 c.args.event c.args.contribution fits.2)

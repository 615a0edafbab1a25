use Rattle.std.proofs.Common.{sym, ap}
use Rattle.std.specs.Option.{option_map}
use Rattle.monitor.specs.Overlaps.{event_at}
use Rattle.monitor.proofs.Fitting.{fit_late}
use Rattle.monitor.proofs.overlap.fitting_access.Goals as goal

pub returns-then-moment-events : goal.returns-then-moment-events
returns-then-moment-events c = ap (option_map (event_at c.args.events.now)) (sym (fit_late c.args.events.now c.args.moment c.args.thread c.args.variable c.args.level c.if-moment-events.true))

use Rattle.std.proofs.Common.{◌≡◌, rules, tests, find, ap, ◌∙◌, option_copied}
use Rattle.event.specs.declared.record.Event.{Event}
use Rattle.std.proofs.lemmas.Iterator.{YieldsList-from_slice}
use Rattle.std.proofs.lemmas.Iterator.Search.{find_from_yields_List}
use Rattle.monitor.specs.Placement.{fits}
use Rattle.monitor.proofs.Fitting.{fit_found}
use Rattle.monitor.proofs.look.Look.fitting.Goals as goal

pub returns : goal.returns
returns c =
    let look = c.args.self in
    let first = λ (e : Event). fits e look.thread c.args.variable c.args.level in
    let found = find_from_yields_List first _ _ c.find.result c.find.ensures.ran (YieldsList-from_slice c.span.result.now (search rules)) (λ x b q k. search (rules, tests)) in
    let copied : c.copied.result ≡ option_copied c.find.result = search rules in
    copied ∙ found ∙ ap (find first) c.span.ensures ∙ fit_found look.events.now look.moment look.thread c.args.variable c.args.level look.within

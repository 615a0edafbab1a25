use Rattle.std.proofs.Common.{cond, [], ◌∷◌, ◌++◌, get_or, None, sym, refl, ap, ◌∙◌, arith}
use Rattle.std.proofs.lemmas.List.{append-nil}
use Rattle.event.specs.declared.counts.Counts.{Counts}
use Rattle.event.specs.declared.letter.Letter.TheVariants.{Read}
use Rattle.detect.specs.Reports.{unless_below}
use Rattle.detect.specs.Table.{slot}
use Rattle.detect.proofs.Asides.{thread_same}
use Rattle.detect.proofs.Asking.{answered, none_refused}
use Rattle.detect.proofs.Offering.{offered_as, offered_more}
use Rattle.detect.proofs.Rivals.{own_thread}
use Rattle.detect.proofs.run.Run.against_thread.Goals as goal

pub returns-in_default-clause-offers : goal.returns-in_default-clause-offers
returns-in_default-clause-offers g c = λ T r a lt.
    let own = own_thread (g.S.Source.counts c.args.self.now.source.now) T c.args.later r.sound in
    let same = ap (λ (n : Counts). n.threads) r.counts in
    absurd (none_refused (g.K.Keeper.counts c.args.self.now.keeper.now) c.args.later.thread c.args.thread c.in_default.field-0 (omega (arith, own, same)) (omega (arith, lt, same)) c.in_default.ensures.undeclared_only)

pub returns-then-is_write-clause-offers : goal.returns-then-is_write-clause-offers
returns-then-is_write-clause-offers g c = λ T r a lt.
    let run = c.args.self.now in
    let j = c.args.later in
    let u = c.args.thread in
    let one = c.against.ensures in
    let write = c.latest_of-write in
    let read = c.latest_of-read in
    let known = answered (g.K.Keeper.counts run.keeper.now) (T ++ j ∷ []) j.thread u c.in-Ok.known (c.in-Ok.ensures.answer (T ++ j ∷ []) r.told) in
    let same_read = read.ensures ∙ (λ i. get_or (one.aside.latest i).now (slot (g.S.Source.counts (one.aside.source i).now) Read u j.number) None) in
    let both = ap (λ b. unless_below c.in-Ok.known j write.result ++ cond b (unless_below c.in-Ok.known j read.result) []) c.if-is_write.ensures in
    offered_as (both ∙ thread_same g.S.Source g.K.Keeper run T j u c.in-Ok.known write.result read.result r a lt c.if-thread-later.false known write.ensures same_read)
    (offered_more one.offers one.aside.capacity c.against-then-is_write.ensures.offers)

pub returns-else-is_write-clause-offers : goal.returns-else-is_write-clause-offers
returns-else-is_write-clause-offers g c = λ T r a lt.
    let run = c.args.self.now in
    let j = c.args.later in
    let u = c.args.thread in
    let write = c.latest_of-write in
    let read = get_or run.latest.now (slot (g.S.Source.counts run.source.now) Read u j.number) None in
    let known = answered (g.K.Keeper.counts run.keeper.now) (T ++ j ∷ []) j.thread u c.in-Ok.known (c.in-Ok.ensures.answer (T ++ j ∷ []) r.told) in
    let one = ap (λ b. unless_below c.in-Ok.known j write.result ++ cond b (unless_below c.in-Ok.known j read) []) c.if-is_write.ensures in
    offered_as (sym (append-nil _) ∙ one ∙ thread_same g.S.Source g.K.Keeper run T j u c.in-Ok.known write.result read r a lt c.if-thread-later.false known write.ensures refl)
    c.against.ensures.offers

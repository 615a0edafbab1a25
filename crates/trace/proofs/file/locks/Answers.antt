use Rattle.std.proofs.Common.{◌≡◌, ◌≤◌, max, length, set, ap, rules}
use Rattle.std.proofs.lemmas.List.{map-set}
use Rattle.trace.specs.Entries.{shown}
use Rattle.trace.specs.Section.{laid_in}
use Rattle.trace.proofs.Laying.{laid_few}
use Rattle.trace.proofs.Locks.{kinds, write_free}
use Rattle.trace.specs.Standing.{free}
use Rattle.trace.proofs.file.locks.Goals as goal

pub loop-i-init : goal.loop-i-init
loop-i-init c =
    let s = c.args.objects in
    let few : length (laid_in s) ≤ s.count = laid_few s.kind (max s.total (length s.bytes.now)) s.count s.bytes.now in
    let same : length (shown c.entries.result) ≡ length (laid_in s) = ap length c.entries.ensures in
    search rules

pub loop-i-preserved : goal.loop-i-preserved
loop-i-preserved c =
    let l = c.loop-i in
    let ks = kinds l.table in
    let put : kinds (set l.table c.in-Some.i (free c.kind_of.result)) ≡ set ks c.in-Some.i c.kind_of.result = map-set (λ o. o.kind) l.table c.in-Some.i (free c.kind_of.result) in
    let all = write_free l.table c.in-Some.i c.kind_of.result l.invariant.all in
    search rules

-- The events of a file after its sections.
use Rattle.std.proofs.Common.{◌≡◌, ℕ, ◌/◌, ◌≤◌, min, List, length, Ok, Err, Result, sym, refl, ap, ◌∙◌, arith}
use Rattle.std.proofs.lemmas.List.{take_all, length-take}
use Rattle.event.specs.declared.record.Event.{Event}
use Rattle.event.specs.declared.counts.Counts.{Counts}
use Rattle.event.specs.Ranges.{nearest}
use Rattle.format.specs.declared.kinds.ObjectKind.{ObjectKind}
use Rattle.format.specs.declared.fault.EventFault.TheVariants.{Sections}
use Rattle.format.specs.declared.fault.OrderFault.{OrderFault}
use Rattle.format.specs.declared.fault.OrderFault.TheVariants.{Events}
use Rattle.trace.specs.declared.trace.Trace.{Trace}
use Rattle.format.specs.Parse.{map_ok}
use Rattle.trace.specs.Section.{items_in}
use Rattle.format.specs.Events.{got_events}
use Rattle.format.specs.Standings.{Standing, fresh, ruled_from, kinds_of, kind_table}
use Rattle.format.specs.Layout.{layout}
use Rattle.format.specs.Trace.{contents, declared_counts, ordered, read_trace}
use Rattle.trace.specs.Whole.{layout_of, Laid, contents_of, block_in, count_in, counts_in}
use Rattle.format.proofs.Steps.{ok_lift_then}

-- the counts of the sections are those of their entries
counts_laid : (t : Trace) → Laid t → counts_in t ≡ declared_counts (items_in t.threads) (items_in t.objects) (items_in t.variables)
counts_laid t l = λ i. nearest (sym l.threads_count i) (sym l.objects_count i) (sym l.variables_count i)

map_map : {X Y Z E : Type 0} (f : X → Y) (g : Y → Z) (r : Result X E) → map_ok (λ x. g (f x)) r ≡ map_ok g (map_ok f r)
map_map f g (Ok x) = refl
map_map f g (Err e) = refl

pub all_held : (n : ℕ) → n ≤ 1000000 → min n 1000000 ≡ n
all_held n few = omega arith

-- the events of any trace are read from no more bytes than a file can have
pub block_few : (t : Trace) → length (block_in t) ≤ 6000000
block_few t = omega (arith, length-take 6000000 t.events.now)

-- no byte of an event is past those that a file can have
pub block_held : (t : Trace) → length t.events.now ≤ 6000000 → block_in t ≡ t.events.now
block_held t few = take_all 6000000 t.events.now few

-- what comes of the events, comes of the file
pub scan_whole : (bs : List ℕ) (t : Trace) (x : Result (Unit {0}) OrderFault) (ks : List ObjectKind) (c : Counts) (s : Standing) → Ok (layout_of t) ≡ layout bs → Laid t → ks ≡ kind_table (kinds_of (items_in t.objects)) → c ≡ counts_in t → s ≡ fresh → length t.events.now ≤ 6000000 → map_ok (λ _. got_events c 0 (length t.events.now / 6) t.events.now) x ≡ ruled_from ks c s 0 (length t.events.now / 6) t.events.now → map_ok (λ _. contents_of t) x ≡ read_trace bs
scan_whole bs t x ks c s h l ek ec es few k =
    let held = block_held t few in
    let put : List Event → _ = contents (items_in t.threads) (items_in t.objects) (items_in t.variables) in
    map_map (λ _. got_events (counts_in t) 0 (count_in t) (block_in t)) put x
    ∙ ap (map_ok put) (ap (λ b. map_ok (λ _. got_events (counts_in t) 0 (length b / 6) b) x) held ∙ ap (λ d. map_ok (λ _. got_events d 0 (length t.events.now / 6) t.events.now) x) (sym ec) ∙ k ∙ (λ i. ruled_from (ek i) ((ec ∙ counts_laid t l) i) (es i) 0 (length (sym held i) / 6) (sym held i)))
    ∙ ap (λ b. map_ok put (ruled_from (kind_table (kinds_of (items_in t.objects))) (declared_counts (items_in t.threads) (items_in t.objects) (items_in t.variables)) fresh 0 (count_in t) b)) held
    ∙ sym (ok_lift_then (λ s. Events (Sections s)) ordered (sym h))

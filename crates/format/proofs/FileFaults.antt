-- A file that is refused is refused for its first fault.
use Rattle.std.proofs.Common.{◌≡◌, ℕ, ◌+◌, ◌-◌, ◌<◌, ◌≤◌, leb, List, [], ◌++◌, length, take, drop, Ok, Err, sym, ap, ◌∙◌, subst, ⊎_elim, zero-le, zero-add, arith, length-append}
use mathlib.Core.Bool.{false≢true}
use Rattle.std.proofs.lemmas.Bool.{leb-false}
use Rattle.std.proofs.lemmas.List.{length-map}
use Rattle.event.specs.declared.record.Event.{Event}
use Rattle.event.specs.declared.counts.Counts.{Counts}
use Rattle.format.specs.declared.kinds.ObjectKind.{ObjectKind}
use Rattle.format.specs.declared.kinds.SectionKind.TheVariants.{Threads, Objects, Variables}
use Rattle.format.specs.declared.fault.ByteFault.{ByteFault}
use Rattle.format.specs.declared.fault.ByteFault.TheVariants.{Ends, Magic}
use Rattle.format.specs.declared.fault.SectionFault.{SectionFault}
use Rattle.format.specs.declared.fault.SectionFault.TheVariants.{Bytes}
use Rattle.format.specs.declared.fault.EventFault.TheVariants.{Sections}
use Rattle.format.specs.declared.fault.OrderFault.{OrderFault}
use Rattle.format.specs.declared.fault.OrderFault.TheVariants.{Events}
use Rattle.format.specs.Parse.{and_then, take_from}
use Rattle.format.specs.Items.{Item, section_from}
use Rattle.format.specs.Codes.{four, code_section}
use Rattle.format.specs.Standings.{fresh, ruled_from, kind_of, kinds_of, kind_at, kind_table}
use Rattle.format.specs.Layout.{is_magic, magic_body, magic_from, block_from, laid_as, with_variables, with_objects, with_threads, with_magic, layout}
use Rattle.format.specs.Trace.{contents, declared_counts, ordered, read_trace}
use Rattle.format.specs.Encode.{AllBytes}
use Rattle.format.specs.Refusals.{GoodSection, magic, InSection, EventFault, letter, range, region, life, mutex, InEvents, in_event, FirstFault, short, not_magic, in_threads, in_objects, in_variables, in_events}
use Rattle.format.proofs.Steps.{ok_err, err_err, then_err, lift_then_err, map_err, either_err}
use Rattle.format.proofs.Inverse.{every_rest, take_sound, section_sound}
use Rattle.format.proofs.WholeInverse.{magic_sound, layout_sound}
use Rattle.format.proofs.Keeping.{accepts_iff, fresh_right, keeps_kinds}
use Rattle.format.proofs.Tables.{table_kinds}
use Rattle.format.proofs.SectionFaults.{section_fault, block_fault}
use Rattle.format.proofs.EventFaults.{events_fault}

-- the first three bytes
magic_fault : (bs : List ℕ) (e : ByteFault) → magic_from bs ≡ Err e → FirstFault bs (Events (Sections (Bytes e)))
magic_fault bs e h =
    let Of : ByteFault → Type 0 = λ b. FirstFault bs (Events (Sections (Bytes b))) in
    ⊎_elim
    (λ s.
    ⊎_elim
    (λ t. ok_err (take 3 bs, drop 3 bs) e t.1)
    (λ t. subst Of (err_err {X = List ℕ × List ℕ} (Ends 0) e t.1) (short (leb-false 3 (length bs) t.0)))
    (either_err (leb 3 (length bs)) (Ok (take 3 bs, drop 3 bs)) (Err (Ends 0)) e s))
    (λ s.
    let x = s.0 in
    let t = take_sound 0 3 bs x s.1 in
    let n = length-append x.0 x.1 in
    let size : 3 ≤ length bs = omega (arith, t.0, ap length t.2) in
    ⊎_elim
    (λ y. ok_err x.1 e y.1)
    (λ y. subst Of (err_err {X = List ℕ} Magic e y.1) (not_magic size (λ q. false≢true (sym y.0 ∙ ap is_magic (sym t.1 ∙ q)))))
    (either_err (is_magic x.0) (Ok x.1) (Err Magic) e s.2))
    (then_err (take_from 0 3 bs) magic_body e h)

-- the offset of what is left, after parts of these lengths
left_at : (n m l : ℕ) → n ≡ m + l → n - l ≡ m
left_at n m l e = omega arith

module _ (bs : List ℕ) (k : AllBytes bs) where
  events_wrong : (ts os vs : List Item) (r₃ : List ℕ) (e : SectionFault) → bs ≡ magic ++ (code_section ts ++ (code_section os ++ (code_section vs ++ r₃))) → GoodSection Threads 1 16 ts → GoodSection Objects 0 512 os → GoodSection Variables 0 256 vs → AllBytes r₃ → block_from (length bs) r₃ ≡ Err e → FirstFault bs (Events (Sections e))
  events_wrong ts os vs r₃ e q gt go gv k₃ h =
      let a = length-append (code_section ts) (code_section os ++ (code_section vs ++ r₃)) in
      let b = length-append (code_section os) (code_section vs ++ r₃) in
      let c = length-append (code_section vs) r₃ in
      let size : length bs ≡ 3 + length (code_section ts) + length (code_section os) + length (code_section vs) + length r₃ = omega (arith, ap length q) in
      let counts = declared_counts ts os vs in
      let kinds = kind_at (kinds_of os) in
      in_events ts os vs r₃ q gt go gv
      (subst (λ p. InEvents counts kinds p r₃ (Events (Sections e))) (left_at (length bs) (3 + length (code_section ts) + length (code_section os) + length (code_section vs)) (length r₃) size)
      (block_fault counts kinds (length bs) r₃ e (omega arith) k₃ h))

  variables_wrong : (ts os : List Item) (r₂ : List ℕ) (e : SectionFault) → bs ≡ magic ++ (code_section ts ++ (code_section os ++ r₂)) → GoodSection Threads 1 16 ts → GoodSection Objects 0 512 os → AllBytes r₂ → and_then (section_from Variables 0 256 (length bs) r₂) (with_variables (length bs) ts os) ≡ Err e → FirstFault bs (Events (Sections e))
  variables_wrong ts os r₂ e q gt go k₂ h =
      let a = length-append (code_section ts) (code_section os ++ r₂) in
      let b = length-append (code_section os) r₂ in
      let size : length bs ≡ 3 + length (code_section ts) + length (code_section os) + length r₂ = omega (arith, ap length q) in
      ⊎_elim
      (λ f.
      in_variables ts os r₂ q gt go
      (subst (λ p. InSection Variables 0 256 p r₂ e) (left_at (length bs) (3 + length (code_section ts) + length (code_section os)) (length r₂) size)
      (section_fault Variables 0 256 (length bs) r₂ e (omega arith) k₂ f)))
      (λ x.
      let s = section_sound Variables 0 256 (length bs) r₂ x.0 k₂ x.1 in
      let vs = x.0.0 in
      let k₃ = every_rest (λ b. b < 256) (code_section vs) x.0.1 (subst AllBytes s.3 k₂) in
      events_wrong ts os vs x.0.1 e (q ∙ ap (λ l. magic ++ (code_section ts ++ (code_section os ++ l))) s.3) gt go (s.0, s.1, s.2) k₃
      (map_err (laid_as ts os vs) (block_from (length bs) x.0.1) e x.2))
      (then_err (section_from Variables 0 256 (length bs) r₂) (with_variables (length bs) ts os) e h)

  objects_wrong : (ts : List Item) (r₁ : List ℕ) (e : SectionFault) → bs ≡ magic ++ (code_section ts ++ r₁) → GoodSection Threads 1 16 ts → AllBytes r₁ → and_then (section_from Objects 0 512 (length bs) r₁) (with_objects (length bs) ts) ≡ Err e → FirstFault bs (Events (Sections e))
  objects_wrong ts r₁ e q gt k₁ h =
      let a = length-append (code_section ts) r₁ in
      let size : length bs ≡ 3 + length (code_section ts) + length r₁ = omega (arith, ap length q) in
      ⊎_elim
      (λ f.
      in_objects ts r₁ q gt
      (subst (λ p. InSection Objects 0 512 p r₁ e) (left_at (length bs) (3 + length (code_section ts)) (length r₁) size) (section_fault Objects 0 512 (length bs) r₁ e (omega arith) k₁ f)))
      (λ x.
      let s = section_sound Objects 0 512 (length bs) r₁ x.0 k₁ x.1 in
      let k₂ = every_rest (λ b. b < 256) (code_section x.0.0) x.0.1 (subst AllBytes s.3 k₁) in
      variables_wrong ts x.0.0 x.0.1 e (q ∙ ap (λ l. magic ++ (code_section ts ++ l)) s.3) gt (s.0, s.1, s.2) k₂ x.2)
      (then_err (section_from Objects 0 512 (length bs) r₁) (with_objects (length bs) ts) e h)

  threads_wrong : (r₀ : List ℕ) (e : SectionFault) → bs ≡ magic ++ r₀ → AllBytes r₀ → and_then (section_from Threads 1 16 (length bs) r₀) (with_threads (length bs)) ≡ Err e → FirstFault bs (Events (Sections e))
  threads_wrong r₀ e q k₀ h =
      let size : length bs ≡ 3 + length r₀ = omega (arith, ap length q) in
      ⊎_elim
      (λ f. in_threads r₀ q (subst (λ p. InSection Threads 1 16 p r₀ e) (left_at (length bs) 3 (length r₀) size) (section_fault Threads 1 16 (length bs) r₀ e (omega arith) k₀ f)))
      (λ x.
      let s = section_sound Threads 1 16 (length bs) r₀ x.0 k₀ x.1 in
      let k₁ = every_rest (λ b. b < 256) (code_section x.0.0) x.0.1 (subst AllBytes s.3 k₀) in
      objects_wrong x.0.0 x.0.1 e (q ∙ ap (λ l. magic ++ l) s.3) (s.0, s.1, s.2) k₁ x.2)
      (then_err (section_from Threads 1 16 (length bs) r₀) (with_threads (length bs)) e h)

  layout_wrong : (e : SectionFault) → layout bs ≡ Err e → FirstFault bs (Events (Sections e))
  layout_wrong e h =
      ⊎_elim
      (λ m. subst (λ f. FirstFault bs (Events (Sections f))) m.2 (magic_fault bs m.0 m.1))
      (λ m. let q = magic_sound bs m.0 m.1 in threads_wrong m.0 e q (subst AllBytes q k).1.1.1 m.2)
      (lift_then_err Bytes (magic_from bs) (with_magic (length bs)) e h)

-- only the kinds of the objects count
fault_kinds : (c : Counts) (k l : ℕ → ObjectKind) (es : List Event) (i : ℕ) (bs : List ℕ) (f : OrderFault) → ((m : ℕ) → k m ≡ l m) → EventFault c k es i bs f → EventFault c l es i bs f
fault_kinds c k l es i bs f h (letter b more q x) = letter b more q x
fault_kinds c k l es i bs f h (range e more q x) = range e more q x
fault_kinds c k l es i bs f h (region e more q a b x y) = region e more q a b x y
fault_kinds c k l es i bs f h (life e more q g x) = life e more q g x
fault_kinds c k l es i bs f h (mutex e more q g x m y) = mutex e more q g x (sym (h e.number) ∙ m) y

pub first_fault : (bs : List ℕ) (f : OrderFault) → AllBytes bs → read_trace bs ≡ Err f → FirstFault bs f
first_fault bs f k h =
    ⊎_elim
    (λ e. subst (FirstFault bs) e.2 (layout_wrong bs k e.0 e.1))
    (λ x.
    let l = x.0 in
    let s = layout_sound bs l k x.1 in
    let list = kinds_of l.objects in
    let ks = kind_table list in
    let counts = declared_counts l.threads l.objects l.variables in
    let few : length list ≤ 512 = rw (length-map l.objects kind_of) s.few_objects in
    let u = events_fault ks counts fresh [] 0 l.count l.block f (fresh_right ks) s.sized s.bytes (map_err (contents l.threads l.objects l.variables) (ruled_from ks counts fresh 0 l.count l.block) f x.2) in
    let es = u.events in
    let keeps = keeps_kinds (kind_at ks) (kind_at list) es (table_kinds list few) ((accepts_iff counts ks es u.good u.numbered).0 u.accepts) in
    let fault = subst (λ i. EventFault counts (kind_at list) es i u.more f) (zero-add (length es)) (fault_kinds counts (kind_at ks) (kind_at list) es (0 + length es) u.more f (table_kinds list few) u.fault) in
    let rest = four l.count ++ l.block in
    in_events l.threads l.objects l.variables rest s.whole (s.some_threads, s.few_threads, s.threads_good) (zero-le, s.few_objects, s.objects_good) (zero-le, s.few_variables, s.variables_good)
    (in_event l.count es u.more (ap (λ z. four l.count ++ z) u.bytes) s.few_events (omega (arith, s.sized)) u.good u.numbered keeps u.fewer fault))
    (lift_then_err (λ s. Events (Sections s)) (layout bs) ordered f h)

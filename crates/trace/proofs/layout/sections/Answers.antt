use Rattle.std.proofs.Common.{◌≡◌, ◌+◌, ◌*◌, ◌/◌, ◌≤◌, length, Ok, sym, ap, ◌∙◌, arith}
use Rattle.std.proofs.lemmas.List.{take_all}
use Rattle.format.specs.declared.kinds.SectionKind.TheVariants.{Threads, Objects, Variables}
use Rattle.format.specs.Parse.{here}
use Rattle.format.specs.Items.{section_from}
use Rattle.trace.specs.Section.{items_in}
use Rattle.format.specs.Codes.{items_laid_out}
use Rattle.format.specs.Layout.{magic_from, block_from, laid_as, size}
use Rattle.trace.proofs.Layouts.{layout_whole, magic_size, next_at}
use Rattle.trace.proofs.layout.sections.Goals as goal

pub returns : goal.returns
returns c =
    let bs = c.args.bytes.now in
    let t₀ = c.magic.new.r.total in
    let r₀ = c.magic.new.r.rest.now in
    let r₁ = c.section.new.r.rest.now in
    let r₂ = c.section-2.new.r.rest.now in
    let r₃ = c.section-3.new.r.rest.now in
    let ts = items_in c.in_ok-threads.threads in
    let os = items_in c.in_ok-objects.objects in
    let vs = items_in c.in_ok-variables.variables in
    let n : t₀ ≡ length bs = c.in_ok-magic.ensures.total ∙ c.new-r.ensures.total in
    let n₁ : c.section.new.r.total ≡ t₀ = c.in_ok-threads.ensures.total in
    let n₂ : c.section-2.new.r.total ≡ t₀ = c.in_ok-objects.ensures.total ∙ n₁ in
    let n₃ : c.section-3.new.r.total ≡ t₀ = c.in_ok-variables.ensures.total ∙ n₂ in
    let m : Ok r₀ ≡ magic_from bs = c.in_ok-magic.ensures.value ∙ ap magic_from c.new-r.ensures.rest in
    let x : Ok (ts, r₁) ≡ section_from Threads 1 16 t₀ r₀ = c.in_ok-threads.ensures.value in
    let y : Ok (os, r₂) ≡ section_from Objects 0 512 t₀ r₁ = c.in_ok-objects.ensures.value ∙ ap (λ t. section_from Objects 0 512 t r₁) n₁ in
    let z : Ok (vs, r₃) ≡ section_from Variables 0 256 t₀ r₂ = c.in_ok-variables.ensures.value ∙ ap (λ t. section_from Variables 0 256 t r₂) n₂ in
    let w = c.in_ok-events.ensures.value ∙ ap (λ t. block_from t r₃) n₃ in
    let block = c.in_ok-events.events.now in
    let few = c.in_ok-events.ensures.size.1 in
    let held = take_all 6000000 block few in
    let s₀ = magic_size bs r₀ m in
    let le₀ : length r₀ ≤ t₀ = omega arith in
    let at₀ : here t₀ r₀ + 2 ≡ 5 = omega arith in
    let s₁ = next_at Threads 1 16 t₀ r₀ r₁ ts le₀ x in
    let le₁ : length r₁ ≤ t₀ = omega (arith, c.section.new.r.within, n₁) in
    let at₁ : here c.section.new.r.total r₁ + 2 ≡ 7 + size ts = omega arith in
    let s₂ = next_at Objects 0 512 t₀ r₁ r₂ os le₁ y in
    let at₂ : here c.section-2.new.r.total r₂ + 2 ≡ 9 + size ts + size os = omega arith in
    record {
      value = ap (λ k. Ok (laid_as ts os vs (length k / 6, block))) held ∙ layout_whole bs r₀ t₀ ts os vs r₁ r₂ r₃ _ n m x y z w;
      laid = record {
        threads_at = c.in_ok-threads.ensures.laid ∙ ap (λ p. items_laid_out p ts) at₀;
        objects_at = c.in_ok-objects.ensures.laid ∙ ap (λ p. items_laid_out p os) at₁;
        variables_at = c.in_ok-variables.ensures.laid ∙ ap (λ p. items_laid_out p vs) at₂;
        threads_count = c.in_ok-threads.ensures.count;
        objects_count = c.in_ok-objects.ensures.count;
        variables_count = c.in_ok-variables.ensures.count;
      };
      few = c.in_ok-objects.ensures.few.1;
      size = (c.in_ok-events.ensures.size.0 ∙ ap (λ k. 6 * (length k / 6)) (sym held), few);
    }

-- The sections of a file, one after another.
use Rattle.std.proofs.Common.{◌≡◌, ℕ, ◌+◌, ◌≤◌, List, length, Ok, sym, ap, ◌∙◌, arith, length-append}
use Rattle.format.specs.declared.fault.ByteFault.TheVariants.{Magic}
use Rattle.format.specs.declared.fault.SectionFault.TheVariants.{Bytes}
use Rattle.format.specs.declared.kinds.SectionKind.{SectionKind}
use Rattle.format.specs.declared.kinds.SectionKind.TheVariants.{Threads, Objects, Variables}
use Rattle.format.specs.Parse.{here, take_from}
use Rattle.format.specs.Items.{Item, section_from}
use Rattle.format.specs.Layout.{is_magic, magic_body, magic_from, block_from, laid_as, size, with_variables, with_objects, with_threads, with_magic, layout}
use Rattle.format.proofs.Steps.{ok_ok, then_ok, if_ok, ok_then, ok_lift_then, ok_map}
use Rattle.format.proofs.Inverse.{take_sound, section_size}

pub layout_whole : (bs r₀ : List ℕ) (t : ℕ) (ts os vs : List Item) (r₁ r₂ r₃ : List ℕ) (b : ℕ × List ℕ) → t ≡ length bs → Ok r₀ ≡ magic_from bs → Ok (ts, r₁) ≡ section_from Threads 1 16 t r₀ → Ok (os, r₂) ≡ section_from Objects 0 512 t r₁ → Ok (vs, r₃) ≡ section_from Variables 0 256 t r₂ → Ok b ≡ block_from t r₃ → Ok (laid_as ts os vs b) ≡ layout bs
layout_whole bs r₀ t ts os vs r₁ r₂ r₃ b n m x y z w =
    sym (
    ok_lift_then Bytes (with_magic (length bs)) (sym m)
    ∙ ap (λ k. with_magic k r₀) (sym n)
    ∙ ok_then (with_threads t) (sym x)
    ∙ ok_then (with_objects t ts) (sym y)
    ∙ ok_then (with_variables t ts os) (sym z)
    ∙ ok_map (laid_as ts os vs) (sym w)
    )

pub magic_size : (bs rest : List ℕ) → Ok rest ≡ magic_from bs → length bs ≡ 3 + length rest
magic_size bs rest h =
    let a = then_ok (take_from 0 3 bs) magic_body rest (sym h) in
    let x = a.0 in
    let b = if_ok (is_magic x.0) (Ok x.1) Magic rest a.2 in
    let t = take_sound 0 3 bs x a.1 in
    let e : length x.1 ≡ length rest = ap length (ok_ok x.1 rest b.1) in
    let n : length bs ≡ length x.0 + length x.1 = ap length t.2 ∙ length-append x.0 x.1 in
    omega (arith, t.0)

-- where the first entry of the next section begins
pub next_at : (k : SectionKind) (low high t : ℕ) (bs rest : List ℕ) (is : List Item) → length bs ≤ t → Ok (is, rest) ≡ section_from k low high t bs → here t rest ≡ here t bs + 2 + size is
next_at k low high t bs rest is le h = let s = section_size k low high t bs (is, rest) (sym h) in omega arith

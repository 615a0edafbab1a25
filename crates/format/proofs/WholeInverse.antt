-- A file that was read is the encoding of its contents.
use Rattle.std.proofs.Common.{◌≡◌, ℕ, ◌+◌, ◌*◌, ◌/◌, ◌<◌, ◌≤◌, true, false, cond, eqb, ltb, List, [], ◌∷◌, ◌++◌, length, Ok, Err, sym, ap, ◌∙◌, subst, arith}
use Rattle.std.specs.List.{AllByRecursion}
use Rattle.std.proofs.lemmas.Bool.{ltb-false, eqb-true}
use Rattle.std.proofs.lemmas.List.{length-map}
use Rattle.format.specs.declared.fault.ByteFault.TheVariants.{Ends, Magic}
use Rattle.format.specs.declared.fault.SectionFault.TheVariants.{Bytes, Count, Left}
use Rattle.format.specs.declared.fault.EventFault.TheVariants.{Sections}
use Rattle.format.specs.declared.fault.OrderFault.TheVariants.{Events}
use Rattle.format.specs.declared.kinds.SectionKind.TheVariants.{Threads, Objects, Variables}
use Rattle.format.specs.Parse.{here, take_from, four_from}
use Rattle.format.specs.Names.{within}
use Rattle.format.specs.Items.{section_from}
use Rattle.format.specs.Codes.{four, code_section}
use Rattle.format.specs.Standings.{kind_of, kinds_of, kind_at, kind_table, fresh, ruled_from}
use Rattle.format.specs.Layout.{is_magic, magic_body, magic_from, sized, block_body, block_from, Layout, laid_as, with_variables, with_objects, with_threads, with_magic, layout}
use Rattle.format.specs.Trace.{Contents, declared_counts, contents, ordered, read_trace}
use Rattle.format.specs.Encode.{encode, Good, Lawful, AllBytes}
use Rattle.format.proofs.Steps.{ok_ok, then_ok, map_ok_parts, if_ok, unless_ok, lift_then_ok}
use Rattle.format.proofs.Inverse.{within_true, every_rest, take_sound, four_sound, section_sound}
use Rattle.format.proofs.EventsInverse.{ruled_sound}
use Rattle.format.proofs.Keeping.{accepts_iff, keeps_kinds}
use Rattle.format.proofs.Tables.{table_kinds}

three : (a b c : ℕ) → cond (eqb a 84) (cond (eqb b 67) (eqb c 1) false) false ≡ true → a ∷ b ∷ c ∷ [] ≡ 84 ∷ 67 ∷ 1 ∷ []
three a b c h =
    let p : a ≡ 84 = grind (arith, eqb-true a 84, eqb-true b 67, eqb-true c 1) in
    let q : b ≡ 67 = grind (arith, eqb-true a 84, eqb-true b 67, eqb-true c 1) in
    let r : c ≡ 1 = grind (arith, eqb-true a 84, eqb-true b 67, eqb-true c 1) in
    λ i. p i ∷ q i ∷ r i ∷ []

is_magic_lem : (xs : List ℕ) → length xs ≡ 3 → is_magic xs ≡ true → xs ≡ 84 ∷ 67 ∷ 1 ∷ []
is_magic_lem [] n h = absurd (omega arith)
is_magic_lem (a ∷ []) n h = absurd (omega arith)
is_magic_lem (a ∷ b ∷ []) n h = absurd (omega arith)
is_magic_lem (a ∷ b ∷ c ∷ []) n h = three a b c h
is_magic_lem (a ∷ b ∷ c ∷ d ∷ xs) n h = absurd (omega arith)

pub magic_sound : (bs rest : List ℕ) → magic_from bs ≡ Ok rest → bs ≡ 84 ∷ 67 ∷ 1 ∷ rest
magic_sound bs rest h =
    let a = then_ok (take_from 0 3 bs) magic_body rest h in
    let x = a.0 in
    let b = if_ok (is_magic x.0) (Ok x.1) Magic rest a.2 in
    let t = take_sound 0 3 bs x a.1 in
    t.2 ∙ (λ i. is_magic_lem x.0 t.0 b.0 i ++ ok_ok x.1 rest b.1 i)

pub block_sound : (t : ℕ) (bs : List ℕ) (y : ℕ × List ℕ) → AllBytes bs → block_from t bs ≡ Ok y → (y.0 ≤ 1000000) × (length y.1 ≡ 6 * y.0) × (bs ≡ four y.0 ++ y.1)
block_sound t bs y bytes h =
    let a = lift_then_ok Bytes (four_from (here t bs) bs) (block_body t (here t bs)) y h in
    let x = a.0 in
    let n = x.0 in
    let l = x.1 in
    let b = if_ok (within 0 1000000 n) (sized t n l) (Count (here t bs)) y a.2 in
    let c = unless_ok (ltb (length l) (6 * n)) (Bytes (Ends (here t l + 6 * (length l / 6)))) (cond (ltb (6 * n) (length l)) (Err (Left (here t l + 6 * n))) (Ok (n, l))) y b.1 in
    let d = unless_ok (ltb (6 * n) (length l)) (Left (here t l + 6 * n)) (Ok (n, l)) y c.1 in
    let w = within_true 0 1000000 n b.0 in
    let e1 = ltb-false (length l) (6 * n) c.0 in
    let e2 = ltb-false (6 * n) (length l) d.0 in
    subst (λ z. (z.0 ≤ 1000000) × (length z.1 ≡ 6 * z.0) × (bs ≡ four z.0 ++ z.1)) (ok_ok x y d.1)
    (w.1, omega (arith, e1, e2), four_sound (here t bs) bs x bytes a.1)

-- what the sections of a file say of its bytes
pub record Sectioned (bs : List ℕ) (l : Layout) : Type 0 where
  pub whole : bs ≡ 84 ∷ 67 ∷ 1 ∷ (code_section l.threads ++ (code_section l.objects ++ (code_section l.variables ++ (four l.count ++ l.block))))
  pub some_threads : 1 ≤ length l.threads
  pub few_threads : length l.threads ≤ 16
  pub few_objects : length l.objects ≤ 512
  pub few_variables : length l.variables ≤ 256
  pub few_events : l.count ≤ 1000000
  pub threads_good : AllByRecursion (Good Threads) l.threads
  pub objects_good : AllByRecursion (Good Objects) l.objects
  pub variables_good : AllByRecursion (Good Variables) l.variables
  pub sized : length l.block ≡ 6 * l.count
  pub bytes : AllBytes l.block

pub layout_sound : (bs : List ℕ) (l : Layout) → AllBytes bs → layout bs ≡ Ok l → Sectioned bs l
layout_sound bs l k h =
    let t = length bs in
    let a = lift_then_ok Bytes (magic_from bs) (with_magic t) l h in
    let m = magic_sound bs a.0 a.1 in
    let k0 : AllBytes a.0 = (subst AllBytes m k).1.1.1 in
    let x = then_ok (section_from Threads 1 16 t a.0) (with_threads t) l a.2 in
    let xs = section_sound Threads 1 16 t a.0 x.0 k0 x.1 in
    let k1 = every_rest (λ b. b < 256) (code_section x.0.0) x.0.1 (subst AllBytes xs.3 k0) in
    let y = then_ok (section_from Objects 0 512 t x.0.1) (with_objects t x.0.0) l x.2 in
    let ys = section_sound Objects 0 512 t x.0.1 y.0 k1 y.1 in
    let k2 = every_rest (λ b. b < 256) (code_section y.0.0) y.0.1 (subst AllBytes ys.3 k1) in
    let z = then_ok (section_from Variables 0 256 t y.0.1) (with_variables t x.0.0 y.0.0) l y.2 in
    let zs = section_sound Variables 0 256 t y.0.1 z.0 k2 z.1 in
    let k3 = every_rest (λ b. b < 256) (code_section z.0.0) z.0.1 (subst AllBytes zs.3 k2) in
    let w = map_ok_parts (laid_as x.0.0 y.0.0 z.0.0) (block_from t z.0.1) l z.2 in
    let ws = block_sound t z.0.1 w.0 k3 w.1 in
    let k4 = every_rest (λ b. b < 256) (four w.0.0) w.0.1 (subst AllBytes ws.2 k3) in
    subst (Sectioned bs) w.2
    (record {
      whole =
          m
          ∙ ap (λ l. 84 ∷ 67 ∷ 1 ∷ l) xs.3
          ∙ ap (λ l. 84 ∷ 67 ∷ 1 ∷ (code_section x.0.0 ++ l)) ys.3
          ∙ ap (λ l. 84 ∷ 67 ∷ 1 ∷ (code_section x.0.0 ++ (code_section y.0.0 ++ l))) zs.3
          ∙ ap (λ l. 84 ∷ 67 ∷ 1 ∷ (code_section x.0.0 ++ (code_section y.0.0 ++ (code_section z.0.0 ++ l)))) ws.2;
      some_threads = xs.0;
      few_threads = xs.1;
      few_objects = ys.1;
      few_variables = zs.1;
      few_events = ws.0;
      threads_good = xs.2;
      objects_good = ys.2;
      variables_good = zs.2;
      sized = ws.1;
      bytes = k4;
    })

pub read_sound : (bs : List ℕ) (c : Contents) → AllBytes bs → read_trace bs ≡ Ok c → (bs ≡ encode c) × Lawful c
read_sound bs c k h =
    let a = lift_then_ok (λ s. Events (Sections s)) (layout bs) ordered c h in
    let l = a.0 in
    let s = layout_sound bs l k a.1 in
    let ks = kind_table (kinds_of l.objects) in
    let counts = declared_counts l.threads l.objects l.variables in
    let v = map_ok_parts (contents l.threads l.objects l.variables) (ruled_from ks counts fresh 0 l.count l.block) c a.2 in
    let es = v.0 in
    let r = ruled_sound ks counts fresh 0 l.count l.block es s.sized s.bytes v.1 in
    let keeps = (accepts_iff counts ks es r.good r.numbered).0 r.accepts in
    let few : length (kinds_of l.objects) ≤ 512 = rw (length-map l.objects kind_of) s.few_objects in
    subst (λ (d : Contents). (bs ≡ encode d) × Lawful d) v.2 (
      s.whole ∙ (λ i. 84 ∷ 67 ∷ 1 ∷ (code_section l.threads ++ (code_section l.objects ++ (code_section l.variables ++ (four (sym r.count i) ++ r.bytes i))))),
      record {
        some_threads = s.some_threads;
        few_threads = s.few_threads;
        few_objects = s.few_objects;
        few_variables = s.few_variables;
        few_events = omega (arith, s.few_events, r.count);
        threads_good = s.threads_good;
        objects_good = s.objects_good;
        variables_good = s.variables_good;
        events_good = r.good;
        numbered = r.numbered;
        rules = keeps_kinds (kind_at ks) (kind_at (kinds_of l.objects)) es (table_kinds (kinds_of l.objects) few) keeps;
      },
    )

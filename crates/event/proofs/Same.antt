-- Counts are the same where the three numbers are.
use Rattle.std.proofs.Common.{◌≡◌, ℕ, ◌≤◌, cond, Ok, Err, sym, ap, ◌∙◌, arith}
use mathlib.Core.HLevel.{is_prop→PathP}
use native.Mathlib.Bridge.{le_prop}
use Rattle.std.proofs.lemmas.Bool.{le-leb}
use Rattle.event.specs.declared.counts.Counts.{Counts}
use Rattle.event.specs.declared.fault.CallerFault.TheVariants.{Counts as BadCount}
use Rattle.event.specs.Ranges.{nearest, counted}

abbrev Limits : ℕ → ℕ → ℕ → Type 0
Limits t o v = (1 ≤ t) × (t ≤ 16) × (o ≤ 512) × (v ≤ 256)

limits_prop : (t o v : ℕ) → IsProp (Limits t o v)
limits_prop t o v p q = λ i. (le_prop p.0 q.0 i, le_prop p.1 q.1 i, le_prop p.2 q.2 i, le_prop p.3 q.3 i)

pub same_counts : (c d : Counts) → c.threads ≡ d.threads → c.objects ≡ d.objects → c.variables ≡ d.variables → c ≡ d
same_counts c d p q r =
    λ i. record {
      threads = p i;
      objects = q i;
      variables = r i;
      limits = is_prop→PathP (λ j. Limits (p j) (q j) (r j)) (λ j. limits_prop (p j) (q j) (r j)) c.limits d.limits i;
    }

-- counts are the nearest to themselves
pub nearest_own : (c : Counts) → c ≡ nearest c.threads c.objects c.variables
nearest_own c = same_counts c _ (omega (arith, c.limits)) (omega (arith, c.limits)) (omega (arith, c.limits))

pub counted_own : (c : Counts) → Ok c ≡ counted c.threads c.objects c.variables
counted_own c =
    let t = c.threads in
    let o = c.objects in
    let v = c.variables in
    ap Ok (nearest_own c)
    ∙ sym (λ i. cond (le-leb 1 t c.limits.0 i) (cond (le-leb t 16 c.limits.1 i) (cond (le-leb o 512 c.limits.2 i) (cond (le-leb v 256 c.limits.3 i) (Ok (nearest t o v)) (Err (BadCount v))) (Err (BadCount o))) (Err (BadCount t))) (Err (BadCount t)))

-- A run over a whole trace is not refused, and lists its races.
use Rattle.std.proofs.Common.{◌≡◌, ℕ, ◌*◌, ◌≤◌, min, cond, ltb, List, [], ◌++◌, length, take, Some, None, Ok, Err, Option, ap, ◌∙◌, subst, mul-le-mul, arith}
use Rattle.std.proofs.lemmas.List.{take_all}
use Rattle.std.proofs.lemmas.Bool.{le-ltb, cond-false}
use Rattle.event.specs.declared.counts.Counts.{Counts}
use Rattle.event.specs.declared.fault.CallerFault.{CallerFault}
use Rattle.event.specs.declared.fault.CallerFault.TheVariants.{Table}
use Rattle.event.specs.declared.record.Event.{Event}
use Rattle.event.proofs.Thinning.{thins_refl}
use Rattle.order.specs.Runs.{Two, Lists, Ran}
use Rattle.sink.specs.Written.{Written, with_line}
use Rattle.stamp.specs.Slots.{slots, lacking}
use Rattle.keeper.specs.Telling.{clearing}
use Rattle.detect.specs.Pairs.{pair_of}
use Rattle.detect.specs.Table.{size, starting}
use Rattle.output.proofs.Printing.{Printed, printed_lines}

-- what is to be shown of a run over the list L with room for 3,000 lines
pub record Listed (L : List Event) (buffer : List ℕ) (found written dropped : ℕ) : Type 0 where
  pub findings : List Two
  pub exactly : Lists L L findings
  pub shown : Printed findings buffer found written dropped

pub listed : (L told : List Event) (cap room : ℕ) (before after : Written) (found written dropped : ℕ) (buffer : List ℕ) → length L ≤ 1000000 → cap ≡ 1000000 → room ≡ 3000 → told ≡ take (min 1000000 cap) L → before.lines ≡ [] → Ran (λ l p. with_line l (pair_of p)) L told room before after found written dropped → buffer ≡ after.lines ++ after.space → Listed L buffer found written dropped
listed L told cap room before after found written dropped buffer few full three first none ran back =
    let all : told ≡ L = first ∙ take_all (min 1000000 cap) L (omega arith) in
    record {
      findings = ran.findings;
      exactly = subst (λ l. Lists L l ran.findings) all (ran.exactly L (thins_refl L));
      shown = printed_lines ran.findings room before after found written dropped buffer three none ran.reported back;
    }

-- a table of 8,192 latest accesses is large enough for all counts
pub few_latest : (c : Counts) → size c ≤ 8192
few_latest c =
    let t : 2 * c.threads ≤ 32 = omega (arith, c.limits) in
    let v : c.variables ≤ 256 = c.limits.3 in
    mul-le-mul t v

-- tables that fit the counts lack nothing
pub no_lack : (c : Counts) (m n : ℕ) → c.threads ≤ m → slots c ≤ n → lacking c m n ≡ None
no_lack c m n p q =
    cond-false (ltb m c.threads) (Some c.threads) (cond (ltb n (slots c)) (Some (slots c)) None) (le-ltb m c.threads p)
    ∙ cond-false (ltb n (slots c)) (Some (slots c)) None (le-ltb n (slots c) q)

-- so a run starts
pub starts : (c : Counts) (entries : ℕ) (lacks : Option ℕ) → size c ≤ entries → lacks ≡ None → starting c entries lacks ≡ Ok tt
starts c entries lacks p q = cond-false (ltb entries (size c)) (Err (Table (size c))) (clearing lacks) (le-ltb entries (size c) p) ∙ ap clearing q

pub not_refused : {Z : Type 0} (f : CallerFault) (c : Counts) (entries : ℕ) (lacks : Option ℕ) → size c ≤ entries → lacks ≡ None → Err f ≡ starting c entries lacks → Z
not_refused f c entries lacks p q h = let e : Err f ≡ Ok tt = h ∙ starts c entries lacks p q in let z : ◌≡◌ {A = ℕ} 0 1 = cc in absurd (omega arith)

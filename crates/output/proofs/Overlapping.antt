-- A report over the events of a trace is not refused for its table, and lists the overlaps.
use Rattle.std.proofs.Common.{◌≡◌, ℕ, ◌≤◌, Bool, true, false, cond, ltb, leb, List, length, Some, None, Ok, Err, Option, sym, refl, ap, ◌∙◌, subst, subst₂, mul-le-mul, arith}
use Rattle.std.proofs.lemmas.Bool.{le-ltb, leb-true, cond-false}
use Rattle.event.specs.declared.counts.Counts.{Counts}
use Rattle.event.specs.declared.fault.CallerFault.TheVariants.{Table, Full}
use Rattle.event.specs.declared.record.Event.{Event}
use Rattle.event.specs.Ranges.{nearest}
use Rattle.source.specs.Listed.{room_for}
use Rattle.trace.specs.declared.trace.Trace.{Trace}
use Rattle.trace.specs.Whole.{Laid, contents_of, counts_in}
use Rattle.monitor.specs.declared.fault.PlacementFault.{PlacementFault}
use Rattle.monitor.specs.declared.fault.PlacementFault.TheVariants.{Caller, Uncovered}
use Rattle.monitor.specs.Checks.{refusing as refused_for, checked, Judged}
use Rattle.monitor.specs.Faults.{placement_filed}
use Rattle.monitor.specs.Placement.{lowest}
use Rattle.monitor.specs.Tables.{size}
use Rattle.output.specs.Monitors.{OverlapsListed, ByPlacement, ByEvents, ByContents, counts_of}
use Rattle.output.specs.Words.{Said, refusing}

-- a table of 4,096 levels is large enough for all counts
few_levels : (c : Counts) → size c ≤ 4096
few_levels c = mul-le-mul c.limits.1 c.limits.3

module _ (c : Counts) (L : List Event) where
  for_moment : checked c L 4096 ≡ refused_for (lowest c L)
  for_moment = cond-false (ltb 4096 (size c)) (Err (Caller (Table (size c)))) (refused_for (lowest c L)) (le-ltb 4096 (size c) (few_levels c))

  pub accepted_listed : (u : Unit {0}) (s : Said) → Ok u ≡ checked c L 4096 → OverlapsListed c L s → ByPlacement c L (lowest c L) s
  accepted_listed u s h l = go (lowest c L) (h ∙ for_moment)
    where
      go : (o : Option ℕ) → Ok u ≡ refused_for o → ByPlacement c L o s
      go None q = l
      go (Some k) q = absurd (let z : ◌≡◌ {A = ℕ} 0 1 = cc in omega arith)

  pub refused_said : (f : PlacementFault) (s : Said) → Err f ≡ checked c L 4096 → Judged c L 4096 (Err f) → s ≡ refusing (placement_filed f) → ByPlacement c L (lowest c L) s
  refused_said f s h j is = go (lowest c L) (h ∙ for_moment)
    where
      go : (o : Option ℕ) → Err f ≡ refused_for o → ByPlacement c L o s
      go None q = absurd (let z : ◌≡◌ {A = ℕ} 0 1 = cc in omega arith)
      go (Some k) q =
          let e : f ≡ Uncovered k = cc in
          ((subst (λ x. Judged c L 4096 (Err x)) e j).1, is ∙ ap (λ x. refusing (placement_filed x)) e)

-- the counts of a trace's sections are those of its contents
counts_of_contents : (t : Trace) → Laid t → counts_in t ≡ counts_of (contents_of t)
counts_of_contents t l = λ i. nearest (sym l.threads_count i) (sym l.objects_count i) (sym l.variables_count i)

-- what is said of the list of a trace's events is said of its contents
pub by_contents : (t : Trace) (c : Counts) (L : List Event) → Laid t → c ≡ counts_in t → L ≡ (contents_of t).events → length L ≤ 4096 → (s : Said) → ByPlacement c L (lowest c L) s → ByContents (contents_of t) s
by_contents t c L laid e f few s h =
    let es = (contents_of t).events in
    let less : ltb 4096 (length es) ≡ false = le-ltb 4096 (length es) (omega (arith, ap length f)) in
    subst (λ b. ByEvents (counts_of (contents_of t)) es b s) (sym less)
    (subst₂ (λ c L. ByPlacement c L (lowest c L) s) (e ∙ counts_of_contents t laid) f h)

-- what a list took, it had room for
pub few_taken : (n : ℕ) (L : List Event) (u : Unit {0}) → Ok u ≡ room_for n L → length L ≤ n
few_taken n L u h = go (leb (length L) n) refl h
  where
    go : (b : Bool) → leb (length L) n ≡ b → Ok u ≡ cond b (Ok tt) (Err (Full n)) → length L ≤ n
    go true p q = leb-true (length L) n p
    go false p q = absurd (let z : ◌≡◌ {A = ℕ} 0 1 = cc in omega arith)

-- The computed list of overlaps has every overlap once, and nothing else, in order.
use Rattle.std.proofs.Common.{rules, ◌≡◌, ℕ, zero, suc, ◌+◌, ◌*◌, ◌<◌, ◌≤◌, Bool, true, false, cond, not, ◌&&◌, eqb, List, [], ◌∷◌, ◌++◌, map, length, Some, None, Option, sym, refl, ap, ◌∙◌, subst, ap₂, ⊎_elim, suc-mul, arith}
use mathlib.Core.List.{Memᴰ}
use Rattle.std.specs.List.{AllByRecursion}
use Rattle.std.proofs.lemmas.List.{append-nil, append_assoc, length-append, map-append}
use Rattle.std.proofs.ByRecursion.{All-append}
use Rattle.std.proofs.lemmas.Bool.{false≢true, and_from, and_parts, not-true, not_from_false, ltb-true, lt-ltb, eqb-false, ne_eqb, cases_eq, cond-true}
use Rattle.event.specs.declared.counts.Counts.{Counts}
use Rattle.event.specs.declared.record.Event.{Event}
use Rattle.monitor.specs.declared.level.Level.{Level}
use Rattle.monitor.specs.declared.level.Level.TheVariants.{None as none, Weak as weak, Strong as strong}
use Rattle.monitor.specs.Overlaps.{event_at, just_after, Rises, Meet, by_place, Overlap, Overlaps, Sooner, by_other, InOrder, rises, is_strong, meets, lowest_fitting, on_both, met, overlap_with, gathered, overlaps_at, overlaps}
use Rattle.monitor.specs.Theorems.{ListedOverlaps}
use Rattle.monitor.proofs.Overlapping.{lowest_is, lowest_once}

-- ---- the computed tests tell the truth

strong_true : (m : Level) → is_strong m ≡ true → m ≡ strong
strong_true none h = absurd (false≢true h)
strong_true weak h = absurd (false≢true h)
strong_true strong h = refl

meets_true : (l m : Level) → meets l m ≡ true → Meet l m
meets_true = search rules

pub true_meets : {l m : Level} → Meet l m → meets l m ≡ true
true_meets = search rules

-- ---- lists that are gathered

module _ {X : Type 0} (f : ℕ → List X) where
  gathered_in : (i n j : ℕ) {x : X} → i ≤ j → j < i + n → Memᴰ x (f j) → Memᴰ x (gathered i n f)
  gathered_in i zero j le lt m = absurd (omega arith)
  gathered_in i (suc n) j {x} le lt m =
      ⊎_elim
      (λ s. mathlib.Core.List.Memᴰ.append_left (gathered (suc i) n f) (subst (λ k. Memᴰ x (f k)) (sym s) m))
      (λ ne. mathlib.Core.List.Memᴰ.append_right (f i) (gathered_in (suc i) n j (omega arith) (omega arith) m))
      (cases_eq i j)

  in_gathered : (i n : ℕ) {x : X} → Memᴰ x (gathered i n f) → (j : ℕ) × (i ≤ j) × (j < i + n) × Memᴰ x (f j)
  in_gathered i zero m = absurd (mathlib.Core.List.Memᴰ.not-nil m)
  in_gathered i (suc n) m =
      ⊎_elim
      (λ k. (i, omega arith, omega arith, k))
      (λ k. let r = in_gathered (suc i) n k in (r.0, omega (arith, r.1), omega (arith, r.2), r.3))
      (mathlib.Core.List.Memᴰ.append_cases (f i) m)

  -- one list more, as a loop gathers them
  pub gathered_more : (i n : ℕ) → gathered i (n + 1) f ≡ gathered i n f ++ f (i + n)
  gathered_more i zero = let z : i + 0 ≡ i = omega arith in append-nil (f i) ∙ ap f (sym z)
  gathered_more i (suc n) =
      let s : suc i + n ≡ i + suc n = omega arith in
      let t : suc n + 1 ≡ suc (n + 1) = omega arith in
      ap (λ k. gathered i k f) t
      ∙ ap (λ xs. f i ++ xs) (gathered_more (suc i) n ∙ ap (λ k. gathered (suc i) n f ++ f k) s)
      ∙ sym (append_assoc (f i) (gathered (suc i) n f) (f (i + suc n)))

  -- lists that agree are gathered to the same
  pub gathered_same : (g : ℕ → List X) (i n : ℕ) → ((j : ℕ) → i ≤ j → j < i + n → f j ≡ g j) → gathered i n f ≡ gathered i n g
  gathered_same g i zero h = refl
  gathered_same g i (suc n) h = ap₂ ◌++◌ (h i (omega arith) (omega arith)) (gathered_same g (suc i) n (λ j le lt. h j (omega arith) (omega arith)))

  pub gathered_none : (i n : ℕ) → ((j : ℕ) → f j ≡ []) → gathered i n f ≡ []
  gathered_none i zero h = refl
  gathered_none i (suc n) h = ap₂ ◌++◌ (h i) (gathered_none (suc i) n h)

  pub gathered_map : {Y : Type 0} (g : X → Y) (i n : ℕ) → map g (gathered i n f) ≡ gathered i n (λ j. map g (f j))
  gathered_map g i zero = refl
  gathered_map g i (suc n) = map-append g (f i) (gathered (suc i) n f) ∙ ap (λ xs. map g (f i) ++ xs) (gathered_map g (suc i) n)

  -- as many lists, of at most m each
  pub gathered_few : (m i n : ℕ) → ((j : ℕ) → length (f j) ≤ m) → length (gathered i n f) ≤ n * m
  gathered_few m i zero h = omega arith
  gathered_few m i (suc n) h =
      let l = length-append (f i) (gathered (suc i) n f) in
      let a = h i in
      let b = gathered_few m (suc i) n h in
      let p : suc n * m ≡ n * m + m = suc-mul n m in
      omega (arith, l, a, b, p)

every_in : {X : Type 0} (P : X → Type 0) (xs : List X) → ((x : X) → Memᴰ x xs → P x) → AllByRecursion P xs
every_in P [] h = tt
every_in P (x ∷ xs) h = (h x (mathlib.Core.List.Memᴰ.head refl), every_in P xs (λ y m. h y (mathlib.Core.List.Memᴰ.tail m)))

order_append : (xs ys : List Overlap) → InOrder xs → InOrder ys → ((x y : Overlap) → Memᴰ x xs → Memᴰ y ys → Sooner x y) → InOrder (xs ++ ys)
order_append [] ys p q h = q
order_append (x ∷ xs) ys p q h = (
  All-append (Sooner x) xs ys p.0 (every_in (Sooner x) ys (λ y m. h x y (mathlib.Core.List.Memᴰ.head refl) m)),
  order_append xs ys p.1 q (λ a b m n. h a b (mathlib.Core.List.Memᴰ.tail m) n),
)

gathered_order : (f : ℕ → List Overlap) → ((j : ℕ) → InOrder (f j)) → ((j k : ℕ) (x y : Overlap) → j < k → Memᴰ x (f j) → Memᴰ y (f k) → Sooner x y) → (i n : ℕ) → InOrder (gathered i n f)
gathered_order f each across i zero = tt
gathered_order f each across i (suc n) =
    order_append (f i) (gathered (suc i) n f) (each i) (gathered_order f each across (suc i) n)
    (λ x y m k. let r = in_gathered f (suc i) n k in across i r.0 x y (omega (arith, r.1)) m r.3)

-- ---- one event and one other thread

module _ (L : List Event) (i u : ℕ) where
  abbrev t : ℕ
  t = (event_at L i).thread

  abbrev v : ℕ
  v = (event_at L i).number

  -- what an overlap of the event at i with u is made of
  record Parts (o : Overlap) : Type 0 where
    pub met_here : met L i u ≡ true
    pub p : ℕ
    pub q : ℕ
    pub own_is : lowest_fitting L (suc i) t v ≡ Some p
    pub other_is : lowest_fitting L (suc i) u v ≡ Some q
    pub is : o ≡ record { rise = i; other = u; two = by_place (event_at L p) (event_at L q) }

  parts : {o : Overlap} → Memᴰ o (overlap_with L i u) → Parts o
  parts {o} m = go (met L i u) refl m
    where
      both : met L i u ≡ true → (a b : Option ℕ) → lowest_fitting L (suc i) t v ≡ a → lowest_fitting L (suc i) u v ≡ b → Memᴰ o (on_both L i u a b) → Parts o
      both h None b e f n = absurd (mathlib.Core.List.Memᴰ.not-nil n)
      both h (Some p) None e f n = absurd (mathlib.Core.List.Memᴰ.not-nil n)
      both h (Some p) (Some q) e f n = record { met_here = h; p = p; q = q; own_is = e; other_is = f; is = mathlib.Core.List.Memᴰ.eq_of_singleton n }

      go : (b : Bool) → met L i u ≡ b → Memᴰ o (cond b (on_both L i u (lowest_fitting L (suc i) t v) (lowest_fitting L (suc i) u v)) []) → Parts o
      go true h n = both h (lowest_fitting L (suc i) t v) (lowest_fitting L (suc i) u v) refl refl n
      go false h n = absurd (mathlib.Core.List.Memᴰ.not-nil n)

  parts_keys : {o : Overlap} → Parts o → (o.rise ≡ i) × (o.other ≡ u)
  parts_keys r = (ap (λ (x : Overlap). x.rise) r.is, ap (λ (x : Overlap). x.other) r.is)

  pub one_at_most : length (overlap_with L i u) ≤ 1
  one_at_most = go (met L i u)
    where
      both : (a b : Option ℕ) → length (on_both L i u a b) ≤ 1
      both None b = omega arith
      both (Some p) None = omega arith
      both (Some p) (Some q) = omega arith

      go : (b : Bool) → length (cond b (on_both L i u (lowest_fitting L (suc i) t v) (lowest_fitting L (suc i) u v)) []) ≤ 1
      go true = both (lowest_fitting L (suc i) t v) (lowest_fitting L (suc i) u v)
      go false = omega arith

  one_in_order : InOrder (overlap_with L i u)
  one_in_order = go (met L i u)
    where
      both : (a b : Option ℕ) → InOrder (on_both L i u a b)
      both None b = tt
      both (Some p) None = tt
      both (Some p) (Some q) = (tt, tt)

      go : (b : Bool) → InOrder (cond b (on_both L i u (lowest_fitting L (suc i) t v) (lowest_fitting L (suc i) u v)) [])
      go true = both (lowest_fitting L (suc i) t v) (lowest_fitting L (suc i) u v)
      go false = tt

  met_true : i < length L → met L i u ≡ true → Rises L i × (u ≡ t → ⊥) × Meet (just_after L i t) (just_after L i u)
  met_true li h =
      let a = and_parts (rises L i) (not (eqb u t) && meets (just_after L i t) (just_after L i u)) h in
      let b = and_parts (not (eqb u t)) (meets (just_after L i t) (just_after L i u)) a.1 in (
        record { within = li; up = ltb-true _ _ a.0 },
        λ s. eqb-false u t (not-true (eqb u t) b.0) s,
        meets_true (just_after L i t) (just_after L i u) b.1,
      )

  true_met : Rises L i → (u ≡ t → ⊥) → Meet (just_after L i t) (just_after L i u) → met L i u ≡ true
  true_met r ne m =
      and_from (rises L i) (not (eqb u t) && meets (just_after L i t) (just_after L i u)) (lt-ltb _ _ r.up)
      (and_from (not (eqb u t)) (meets (just_after L i t) (just_after L i u)) (not_from_false (eqb u t) (ne_eqb u t ne)) (true_meets m))

module _ (c : Counts) (L : List Event) where
  -- what is listed for one event and one other thread is an overlap
  pub listed_with : (i u : ℕ) → i < length L → u < c.threads → {o : Overlap} → Memᴰ o (overlap_with L i u) → Overlaps c L o
  listed_with i u li lu {o} m =
      let r = parts L i u m in
      let h = met_true L i u li r.met_here in
      subst (Overlaps c L) (sym r.is) (record {
        rises = h.0;
        declared = lu;
        apart = h.1;
        meet = h.2;
        own = r.p;
        own_access = lowest_is L (suc i) (event_at L i).thread (event_at L i).number r.p r.own_is;
        others = r.q;
        others_access = lowest_is L (suc i) u (event_at L i).number r.q r.other_is;
        pair = refl;
      })

  listed_is : {o : Overlap} → Memᴰ o (overlaps c L) → Overlaps c L o
  listed_is = search (rules, in_gathered, listed_with)

  is_listed : {o : Overlap} → Overlaps c L o → Memᴰ o (overlaps c L)
  is_listed {o} h =
      let i = o.rise in
      let u = o.other in
      let both : overlap_with L i u ≡ record { rise = i; other = u; two = by_place (event_at L h.own) (event_at L h.others) } ∷ [] =
      cond-true (met L i u) _ _ (true_met L i u h.rises h.apart h.meet)
      ∙ ap₂ (on_both L i u) (lowest_once L (suc i) (event_at L i).thread (event_at L i).number h.own h.own_access) (lowest_once L (suc i) u (event_at L i).number h.others h.others_access) in
      let here : Memᴰ o (overlap_with L i u) = subst (λ xs. Memᴰ o xs) (sym both) (mathlib.Core.List.Memᴰ.head (ap (λ w. record { rise = i; other = u; two = w }) h.pair)) in
      gathered_in (overlaps_at c L) 0 (length L) i (omega arith) (omega (arith, h.rises.within))
      (gathered_in (overlap_with L i) 0 c.threads u (omega arith) (omega (arith, h.declared)) here)

  at_keys : (i : ℕ) {o : Overlap} → Memᴰ o (overlaps_at c L i) → o.rise ≡ i
  at_keys i m = let b = in_gathered (overlap_with L i) 0 c.threads m in (parts_keys L i b.0 (parts L i b.0 b.3)).0

  at_in_order : (i : ℕ) → InOrder (overlaps_at c L i)
  at_in_order i =
      gathered_order (overlap_with L i) (one_in_order L i)
      (λ j k x y lt m n.
      let a = parts_keys L i j (parts L i j m) in
      let b = parts_keys L i k (parts L i k n) in
      by_other (a.0 ∙ sym b.0) (omega (arith, a.1, b.1)))
      0 c.threads

  pub overlaps_listed : ListedOverlaps c L
  overlaps_listed = search (rules, gathered_order, listed_is, is_listed, at_keys, at_in_order)

  -- at most one for each event and each thread
  pub overlaps_few : c.threads ≤ 16 → length (overlaps c L) ≤ length L * 16
  overlaps_few le =
      gathered_few (overlaps_at c L) 16 0 (length L)
      (λ i. let a = gathered_few (overlap_with L i) 1 0 c.threads (one_at_most L i) in omega (arith, a, le))

-- What is wrong with an entry that is refused.
use Rattle.std.proofs.Common.{◌≡◌, ℕ, zero, suc, ◌+◌, ◌-◌, ◌<◌, ◌≤◌, Bool, true, false, cond, eqb, leb, ◌⊎◌, List, [], ◌∷◌, ◌++◌, length, take, drop, replicate, Ok, Err, sym, refl, ap, ◌∙◌, subst, inl, inr, ⊎_elim, append_assoc, add-zero, arith, length-append}
use mathlib.Core.Bool.{false≢true}
use lib.ListN.{length-replicate}
use Rattle.std.specs.List.{flat_map, AllByRecursion}
use Rattle.std.proofs.lemmas.Bool.{leb-false, eqb-true, eqb-false}
use Rattle.std.proofs.lemmas.List.{take_all}
use Rattle.format.specs.declared.fault.ByteFault.TheVariants.{Ends}
use Rattle.format.specs.declared.fault.SectionFault.{SectionFault}
use Rattle.format.specs.declared.fault.SectionFault.TheVariants.{Bytes, Entry}
use Rattle.format.specs.declared.kinds.SectionKind.{SectionKind}
use Rattle.format.specs.declared.kinds.SectionKind.TheVariants.{Threads, Objects, Variables}
use Rattle.format.specs.declared.kinds.ObjectKind.{ObjectKind}
use Rattle.format.specs.declared.kinds.ObjectKind.TheVariants.{Mutex, Semaphore}
use Rattle.format.specs.Parse.{map_ok, lift, here}
use Rattle.format.specs.Names.{within, all_good_bytes, name_from}
use Rattle.format.specs.Items.{Item, thread, object, variable, named, item_from, items_from, cons_item}
use Rattle.format.specs.Codes.{code_name, code_kind, code_item}
use Rattle.format.specs.Encode.{GoodName, Good}
use Rattle.format.specs.Refusals.{Meets, Cut, Bad, EntryFault, cut, bad}
use Rattle.format.proofs.Steps.{ok_err, err_err, then_err, map_err, either_err}
use Rattle.format.proofs.Inverse.{within_true, within_from, item_sound}

-- a name that is cut: the bytes agree with a good name, and end before it does
record CutName (bs : List ℕ) : Type 0 where
  name : List ℕ
  good : GoodName name
  meets : Meets bs (code_name name)
  short : length bs < suc (length name)

abbrev BadName : List ℕ → Type 0
BadName bs = (ns : List ℕ) → GoodName ns → Meets bs (code_name ns) → ⊥

meets_front : (xs ys : List ℕ) → Meets xs (xs ++ ys)
meets_front [] ys = tt
meets_front (x ∷ xs) ys = (refl, meets_front xs ys)

-- one more byte of a name
good_cons : (x : ℕ) (xs ys : List ℕ) → (all_good_bytes xs ≡ true → all_good_bytes ys ≡ true) → all_good_bytes (x ∷ xs) ≡ true → all_good_bytes (x ∷ ys) ≡ true
good_cons x xs ys more h = go (within 33 126 x) h
  where
    go : (b : Bool) → cond b (all_good_bytes xs) false ≡ true → cond b (all_good_bytes ys) false ≡ true
    go true p = more p
    go false p = absurd (false≢true p)

good_append : (xs ys : List ℕ) → all_good_bytes ys ≡ true → all_good_bytes xs ≡ true → all_good_bytes (xs ++ ys) ≡ true
good_append [] ys q p = q
good_append (x ∷ xs) ys q p = good_cons x xs (xs ++ ys) (good_append xs ys q) p

good_fill : (n : ℕ) → all_good_bytes (replicate n 33) ≡ true
good_fill zero = refl
good_fill (suc n) = good_fill n

-- bytes that agree with a good name are good as far as the name goes
good_front_lem : (xs ns : List ℕ) → Meets xs ns → all_good_bytes ns ≡ true → all_good_bytes (take (length ns) xs) ≡ true
good_front_lem [] [] m h = refl
good_front_lem [] (n ∷ ns) m h = refl
good_front_lem (x ∷ xs) [] m h = refl
good_front_lem (x ∷ xs) (n ∷ ns) m h =
    subst (λ y. all_good_bytes (y ∷ take (length ns) xs) ≡ true) (sym m.0) (good_cons n ns (take (length ns) xs) (good_front_lem xs ns m.1) h)

-- a name that ends early can be filled up to a good one
cut_name : (n : ℕ) (more : List ℕ) → within 1 31 n ≡ true → all_good_bytes (take n more) ≡ true → length more < n → CutName (n ∷ more)
cut_name n more w g lt =
    let fill : List ℕ = replicate (n - length more) 33 in
    let size : length fill ≡ n - length more = length-replicate (n - length more) 33 in
    let b = within_true 1 31 n w in
    let whole : length (more ++ fill) ≡ n = length-append more fill ∙ (omega (arith, size)) in
    let all : all_good_bytes more ≡ true = subst (λ l. all_good_bytes l ≡ true) (take_all n more (omega arith)) g in
    record {
      name = more ++ fill;
      good = (omega (arith, whole, b.0), omega (arith, whole, b.1), good_append more fill (good_fill (n - length more)) all);
      meets = (sym whole, meets_front more fill);
      short = omega (arith, whole);
    }

module _ (p : ℕ) where
  -- bytes that agree with a good name are not refused for what they are
  name_bad : (n : ℕ) (more : List ℕ) → name_from p (n ∷ more) ≡ Err (Entry p) → BadName (n ∷ more)
  name_bad n more h ns g m =
      let w : within 1 31 n ≡ true = subst (λ k. within 1 31 k ≡ true) (sym m.0) (within_from 1 31 (length ns) g.0 g.1) in
      let a : all_good_bytes (take n more) ≡ true = subst (λ k. all_good_bytes (take k more) ≡ true) (sym m.0) (good_front_lem more ns m.1 g.2) in
      go (within 1 31 n) (all_good_bytes (take n more)) (leb n (length more)) w a h
    where
      go : (v a l : Bool) → v ≡ true → a ≡ true → cond v (cond a (lift {X = List ℕ × List ℕ} Bytes (cond l (Ok (take n more, drop n more)) (Err (Ends p)))) (Err (Entry p))) (Err (Entry p)) ≡ Err (Entry p) → ⊥
      go false a l v g h = false≢true v
      go true false l v g h = false≢true g
      go true true true v g h = ok_err (take n more, drop n more) (Entry p) h
      go true true false v g h = let e = err_err {X = List ℕ × List ℕ} (Bytes (Ends p)) (Entry p) h in let z : ◌≡◌ {A = ℕ} 0 1 = cc in omega arith

  name_cut : (n : ℕ) (more : List ℕ) (f : SectionFault) → name_from p (n ∷ more) ≡ Err f → (f ≡ Entry p) ⊎ ((f ≡ Bytes (Ends p)) × CutName (n ∷ more))
  name_cut n more f h = go (within 1 31 n) (all_good_bytes (take n more)) (leb n (length more)) refl refl refl h
    where
      go : (v a l : Bool) → within 1 31 n ≡ v → all_good_bytes (take n more) ≡ a → leb n (length more) ≡ l → cond v (cond a (lift {X = List ℕ × List ℕ} Bytes (cond l (Ok (take n more, drop n more)) (Err (Ends p)))) (Err (Entry p))) (Err (Entry p)) ≡ Err f → (f ≡ Entry p) ⊎ ((f ≡ Bytes (Ends p)) × CutName (n ∷ more))
      go false a l v g s h = inl (sym (err_err {X = List ℕ × List ℕ} (Entry p) f h))
      go true false l v g s h = inl (sym (err_err {X = List ℕ × List ℕ} (Entry p) f h))
      go true true true v g s h = ok_err (take n more, drop n more) f h
      go true true false v g s h = inr (sym (err_err {X = List ℕ × List ℕ} (Bytes (Ends p)) f h), cut_name n more v g (leb-false n (length more) s))

  name_fault : (bs : List ℕ) (f : SectionFault) → name_from p bs ≡ Err f → ((f ≡ Bytes (Ends p)) × CutName bs) ⊎ ((f ≡ Entry p) × BadName bs)
  name_fault [] f h =
      inl (sym (err_err {X = List ℕ × List ℕ} (Bytes (Ends p)) f h), record { name = 33 ∷ []; good = (omega arith, omega arith, refl); meets = tt; short = omega arith })
  name_fault (n ∷ more) f h = ⊎_elim (λ e. inr (e, name_bad n more (h ∙ ap Err e))) inl (name_cut n more f h)

  fault_at : (k : SectionKind) (bs : List ℕ) (f : SectionFault) → ((f ≡ Bytes (Ends p)) × Cut k bs) ⊎ ((f ≡ Entry p) × Bad k bs) → EntryFault k p bs f
  fault_at k bs f o = ⊎_elim (λ c. subst (EntryFault k p bs) (sym c.0) (cut c.1)) (λ b. subst (EntryFault k p bs) (sym b.0) (bad b.1)) o

  thread_fault : (bs : List ℕ) (f : SectionFault) → item_from Threads p bs ≡ Err f → EntryFault Threads p bs f
  thread_fault bs f h =
      fault_at Threads bs f
      (⊎_elim
      (λ c. inl (c.0, record { entry = thread c.1.name; good = c.1.good; meets = c.1.meets; short = c.1.short }))
      (λ b. inr (b.0, bad_thread b.1))
      (name_fault bs f (map_err (λ (x : List ℕ × List ℕ). (thread x.0, x.1)) (name_from p bs) f h)))
    where
      bad_thread : BadName bs → Bad Threads bs
      bad_thread b (thread n) g m = b n g m
      bad_thread b (object k n) g m = g
      bad_thread b (variable n) g m = g

  variable_fault : (bs : List ℕ) (f : SectionFault) → item_from Variables p bs ≡ Err f → EntryFault Variables p bs f
  variable_fault bs f h =
      fault_at Variables bs f
      (⊎_elim
      (λ c. inl (c.0, record { entry = variable c.1.name; good = c.1.good; meets = c.1.meets; short = c.1.short }))
      (λ b. inr (b.0, bad_variable b.1))
      (name_fault bs f (map_err (λ (x : List ℕ × List ℕ). (variable x.0, x.1)) (name_from p bs) f h)))
    where
      bad_variable : BadName bs → Bad Variables bs
      bad_variable b (thread n) g m = g
      bad_variable b (object k n) g m = g
      bad_variable b (variable n) g m = b n g m

  bad_object : (x : ℕ) (more : List ℕ) → ((k : ObjectKind) → x ≡ code_kind k → BadName more) → Bad Objects (x ∷ more)
  bad_object x more b (thread n) g m = g
  bad_object x more b (object k n) g m = b k m.0 n g m.1
  bad_object x more b (variable n) g m = g

  -- after a good letter the name is judged
  object_name : (k : ObjectKind) (x : ℕ) (more : List ℕ) (f : SectionFault) → x ≡ code_kind k → named (object k) p more ≡ Err f → EntryFault Objects p (x ∷ more) f
  object_name k x more f e h =
      fault_at Objects (x ∷ more) f
      (⊎_elim
      (λ c. inl (c.0, record { entry = object k c.1.name; good = c.1.good; meets = (e, c.1.meets); short = omega (arith, c.1.short) }))
      (λ b. inr (b.0, bad_object x more (λ l q. b.1)))
      (name_fault more f (map_err (λ (y : List ℕ × List ℕ). (object k y.0, y.1)) (name_from p more) f h)))

  no_letter : (x : ℕ) → (x ≡ 109 → ⊥) → (x ≡ 115 → ⊥) → (k : ObjectKind) → x ≡ code_kind k → ⊥
  no_letter x a b Mutex q = a q
  no_letter x a b Semaphore q = b q

  object_fault : (bs : List ℕ) (f : SectionFault) → item_from Objects p bs ≡ Err f → EntryFault Objects p bs f
  object_fault [] f h =
      fault_at Objects [] f (inl (sym (err_err {X = Item × List ℕ} (Bytes (Ends p)) f h), record { entry = object Mutex (33 ∷ []); good = (omega arith, omega arith, refl); meets = tt; short = omega arith }))
  object_fault (x ∷ more) f h =
      ⊎_elim
      (λ m. object_name Mutex x more f (eqb-true x 109 m.0) m.1)
      (λ m.
      ⊎_elim
      (λ s. object_name Semaphore x more f (eqb-true x 115 s.0) s.1)
      (λ s.
      fault_at Objects (x ∷ more) f
      (inr (sym (err_err {X = Item × List ℕ} (Entry p) f s.1), bad_object x more (λ k q. absurd (no_letter x (eqb-false x 109 m.0) (eqb-false x 115 s.0) k q)))))
      (either_err (eqb x 115) (named (object Semaphore) p more) (Err (Entry p)) f m.1))
      (either_err (eqb x 109) (named (object Mutex) p more) (cond (eqb x 115) (named (object Semaphore) p more) (Err (Entry p))) f h)

  pub entry_fault : (k : SectionKind) (bs : List ℕ) (f : SectionFault) → item_from k p bs ≡ Err f → EntryFault k p bs f
  entry_fault Threads bs f h = thread_fault bs f h
  entry_fault Objects bs f h = object_fault bs f h
  entry_fault Variables bs f h = variable_fault bs f h

-- the good entries before the faulty one
pub record Until (k : SectionKind) (t n : ℕ) (bs : List ℕ) (f : SectionFault) : Type 0 where
  pub entries : List Item
  pub more : List ℕ
  pub bytes : bs ≡ flat_map code_item entries ++ more
  pub good : AllByRecursion (Good k) entries
  pub fewer : length entries < n
  pub fault : EntryFault k (here t bs + length (flat_map code_item entries)) more f

pub entries_fault : (k : SectionKind) (t n : ℕ) (bs : List ℕ) (f : SectionFault) → length bs ≤ t → items_from k t n bs ≡ Err f → Until k t n bs f
entries_fault k t zero bs f le h = ok_err ([], bs) f h
entries_fault k t (suc n) bs f le h =
    ⊎_elim
    (λ e.
    record {
      entries = [];
      more = bs;
      bytes = refl;
      good = tt;
      fewer = omega arith;
      fault = subst (λ q. EntryFault k q bs f) (sym (add-zero (here t bs))) (entry_fault (here t bs) k bs f e);
    })
    (λ s.
    let x = s.0 in
    let one = item_sound k (here t bs) bs x s.1 in
    let size : length bs ≡ length (code_item x.0) + length x.1 = ap length one.1 ∙ length-append (code_item x.0) x.1 in
    let u = entries_fault k t n x.1 f (omega arith) (map_err (cons_item x.0) (items_from k t n x.1) f s.2) in
    let rest = flat_map code_item u.entries in
    let longer = length-append (code_item x.0) rest in
    let at : here t x.1 + length rest ≡ here t bs + length (code_item x.0 ++ rest) = omega arith in
    record {
      entries = x.0 ∷ u.entries;
      more = u.more;
      bytes = one.1 ∙ ap (λ l. code_item x.0 ++ l) u.bytes ∙ sym (append_assoc (code_item x.0) rest u.more);
      good = (one.0, u.good);
      fewer = omega (arith, u.fewer);
      fault = subst (λ q. EntryFault k q u.more f) at u.fault;
    })
    (then_err (item_from k (here t bs) bs) (λ x. map_ok (cons_item x.0) (items_from k t n x.1)) f h)

-- Offers one after another.
use Rattle.std.proofs.Common.{◌≡◌, ℕ, ◌+◌, ◌-◌, ◌<◌, ◌≤◌, min, Bool, true, false, cond, ltb, List, [], ◌∷◌, ◌++◌, length, take, Ok, Err, fold, sym, refl, ap, ◌∙◌, subst, ⊎_elim, add_assoc, arith}
use lib.Seq.{take-append-add}
use Rattle.std.proofs.lemmas.List.{append-nil, length-append, take_all, take-append-le}
use Rattle.std.proofs.lemmas.List.Sums.{fold-append}
use Rattle.std.proofs.lemmas.Bool.{cases_lt, ltb-true, lt-ltb, le-ltb, cond-true, cond-false}
use Rattle.event.specs.declared.fault.CallerFault.{CallerFault}
use Rattle.event.specs.declared.fault.CallerFault.TheVariants.{Sink}
use Rattle.order.specs.Runs.{Two}
use Rattle.sink.specs.declared.sink.Sink.{Ghosts as Sinking}
use Rattle.sink.specs.Taking.{taking}
use Rattle.detect.specs.declared.totals.Totals.{Totals}
use Rattle.detect.specs.Offers.{most, counted, Offered, Offering}

-- the front of one list after another
take_both : (n : ℕ) (fs gs : List Two) → take n (fs ++ gs) ≡ take n fs ++ take (n - min n (length fs)) gs
take_both n fs gs =
    ⊎_elim
    (λ (lt : n < length fs).
    let none : n - min n (length fs) ≡ 0 = omega arith in
    take-append-le n fs gs (omega arith) ∙ sym (append-nil (take n fs)) ∙ ap (λ k. take n fs ++ take k gs) (sym none))
    (λ (le : length fs ≤ n).
    let whole : take n fs ≡ fs = take_all n fs le in
    let back : length fs + (n - length fs) ≡ n = omega arith in
    let rest : n - length fs ≡ n - min n (length fs) = omega arith in
    ap (λ k. take k (fs ++ gs)) (sym back) ∙ take-append-add fs gs (n - length fs) ∙ (λ i. sym whole i ++ take (rest i) gs))
    (cases_lt n (length fs))

module _ {R : Type 0} {step : R → Two → R} {capacity taken : ℕ} {log : R} {found written dropped : ℕ} where
  pub offered_none : Offered step capacity taken log found written dropped [] taken log found written dropped
  offered_none =
      let none : take {A = Two} (capacity - taken) [] ≡ [] = take_all (capacity - taken) [] (omega arith) in
      record { all = λ h. omega arith; took = omega arith; wrote = λ h. omega arith; left = λ h. omega arith; kept = sym (ap (fold step log) none) }

  pub offered_taken : (f : Two) (taken' : ℕ) (log' : R) (found' written' : ℕ) → found' ≡ counted found → written' ≡ counted written → taken < capacity → taken' ≡ taken + 1 → log' ≡ step log f → Offered step capacity taken log found written dropped (f ∷ []) taken' log' found' written' dropped
  offered_taken f taken' log' found' written' p q lt t l =
      let whole : take (capacity - taken) (f ∷ []) ≡ f ∷ [] = take_all (capacity - taken) (f ∷ []) (omega arith) in
      record { all = λ h. omega arith; took = omega arith; wrote = λ h. omega arith; left = λ h. omega arith; kept = l ∙ sym (ap (fold step log) whole) }

  pub offered_refused : (f : Two) (taken' : ℕ) (log' : R) (found' dropped' : ℕ) → found' ≡ counted found → dropped' ≡ counted dropped → capacity ≤ taken → taken' ≡ taken → log' ≡ log → Offered step capacity taken log found written dropped (f ∷ []) taken' log' found' written dropped'
  offered_refused f taken' log' found' dropped' p q le t l =
      let zero : capacity - taken ≡ 0 = omega arith in
      let none : take (capacity - taken) (f ∷ []) ≡ [] = ap (λ k. take k (f ∷ [])) zero in
      record { all = λ h. omega arith; took = omega arith; wrote = λ h. omega arith; left = λ h. omega arith; kept = l ∙ sym (ap (fold step log) none) }

-- a sink that has room takes, and no other
pub taken_room : (capacity taken : ℕ) (u : Unit {0}) → Ok u ≡ taking capacity taken → taken < capacity
taken_room capacity taken u h = go (ltb taken capacity) refl h
  where
    go : (b : Bool) → ltb taken capacity ≡ b → Ok u ≡ cond b (Ok (tt {0})) (Err (Sink capacity)) → taken < capacity
    go true p q = ltb-true _ _ p
    go false p q = absurd (let z : ◌≡◌ {A = ℕ} 0 1 = cc in omega arith)

-- an answer is refused only where its test fails
pub refused_full : (n m : ℕ) (f g : CallerFault) → Err f ≡ cond (ltb n m) (Ok (tt {0})) (Err g) → (m ≤ n) × (f ≡ g)
refused_full n m f g h =
    ⊎_elim (λ lt. let e = h ∙ cond-true _ _ _ (lt-ltb _ _ lt) in cc) (λ le. let e = h ∙ cond-false _ _ _ (le-ltb _ _ le) in (le, cc)) (cases_lt n m)

-- the room that the first findings leave to the others
module _ (n a b : ℕ) where
  room_twice : min n a + min (n - min n a) b ≡ min n (a + b)
  room_twice = omega arith

  left_twice : (a - n) + (b - (n - min n a)) ≡ a + b - n
  left_twice = omega arith

  left_few : a - n ≤ a
  left_few = omega arith

-- What was offered after other findings is offered with them: what the first ones left of the room is the room of the others.
pub offered_more : {R : Type 0} {step : R → Two → R} {capacity taken : ℕ} {log : R} {found written dropped : ℕ} {fs : List Two} {taken' : ℕ} {log' : R} {found' written' dropped' : ℕ} {capacity' : ℕ} {gs : List Two} {taken'' : ℕ} {log'' : R} {found'' written'' dropped'' : ℕ} →
    Offered step capacity taken log found written dropped fs taken' log' found' written' dropped' → capacity' ≡ capacity →
    Offered step capacity' taken' log' found' written' dropped' gs taken'' log'' found'' written'' dropped'' →
    Offered step capacity taken log found written dropped (fs ++ gs) taken'' log'' found'' written'' dropped''
offered_more {R} {step} {capacity} {taken} {log} {found} {written} {dropped} {fs} {taken'} {log'} {found'} {written'} {dropped'} {capacity'} {gs} {taken''} {log''} {found''} {written''} {dropped''} h same k =
    record { all = all; took = took; wrote = wrote; left = left; kept = kept }
  where
    n : ℕ
    n = capacity - taken

    a : ℕ
    a = length fs

    b : ℕ
    b = length gs

    long : length (fs ++ gs) ≡ a + b
    long = length-append fs gs

    room : capacity' - taken' ≡ n - min n a
    room = omega (arith, h.took, same)

    all : found + length (fs ++ gs) ≤ most → found'' ≡ found + length (fs ++ gs)
    all m = let x = h.all (omega (arith, m, long)) in let y = k.all (omega (arith, m, long, x)) in omega (arith, x, y, long)

    took : taken'' ≡ taken + min n (length (fs ++ gs))
    took = k.took ∙ (λ i. h.took i + min (room i) b) ∙ add_assoc taken _ _ ∙ ap (λ x. taken + x) (room_twice n a b ∙ ap (min n) (sym long))

    wrote : written + length (fs ++ gs) ≤ most → written'' ≡ written + min n (length (fs ++ gs))
    wrote m =
        let x = h.wrote (omega (arith, m, long)) in
        let y = k.wrote (omega (arith, m, long, x)) in
        y ∙ (λ i. x i + min (room i) b) ∙ add_assoc written _ _ ∙ ap (λ z. written + z) (room_twice n a b ∙ ap (min n) (sym long))

    left : dropped + length (fs ++ gs) ≤ most → dropped'' ≡ dropped + (length (fs ++ gs) - n)
    left m =
        let x = h.left (omega (arith, m, long)) in
        let y = k.left (omega (arith, m, long, x, left_few n a b)) in
        y ∙ (λ i. x i + (b - room i)) ∙ add_assoc dropped _ _ ∙ ap (λ z. dropped + z) (left_twice n a b ∙ ap (λ z. z - n) (sym long))

    kept : log'' ≡ fold step log (take n (fs ++ gs))
    kept = k.kept ∙ (λ i. fold step (h.kept i) (take (room i) gs)) ∙ sym (ap (fold step log) (take_both n fs gs) ∙ fold-append step log (take n fs) (take (n - min n a) gs))

-- the same findings
pub offered_as : {R : Type 0} {step : R → Two → R} {capacity taken : ℕ} {log : R} {found written dropped : ℕ} {fs gs : List Two} {taken' : ℕ} {log' : R} {found' written' dropped' : ℕ} →
    fs ≡ gs → Offered step capacity taken log found written dropped fs taken' log' found' written' dropped' → Offered step capacity taken log found written dropped gs taken' log' found' written' dropped'
offered_as {R} {step} {capacity} {taken} {log} {found} {written} {dropped} {fs} {gs} {taken'} {log'} {found'} {written'} {dropped'} e h =
    subst (λ (rs : List Two). Offered step capacity taken log found written dropped rs taken' log' found' written' dropped') e h

module _ {O : Type 0} (o : Sinking O) where
  pub offering_none : {s : O} {t : Totals} → Offering o s t [] s t
  offering_none = record { capacity = refl; offers = offered_none }

  pub offering_as : {s s' : O} {t t' : Totals} {fs gs : List Two} → fs ≡ gs → Offering o s t fs s' t' → Offering o s t gs s' t'
  offering_as e h = record { capacity = h.capacity; offers = offered_as e h.offers }

  -- what is offered after other findings is offered with them
  pub offering_more : {s s' s'' : O} {t t' t'' : Totals} {fs gs : List Two} → Offering o s t fs s' t' → Offering o s' t' gs s'' t'' → Offering o s t (fs ++ gs) s'' t''
  offering_more h k = record { capacity = k.capacity ∙ h.capacity; offers = offered_more h.offers h.capacity k.offers }

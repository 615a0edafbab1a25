-- What is wrong with an event that is refused, and with the first such event of a file.
use Rattle.std.proofs.Common.{◌≡◌, ℕ, zero, suc, ◌+◌, ◌*◌, ◌<◌, ◌≤◌, true, false, cond, eqb, List, [], ◌∷◌, ◌++◌, length, drop, Some, None, Ok, Err, Option, Result, sym, refl, ap, ◌∙◌, subst, ⊎_elim, append_assoc, append-nil, add-zero, arith}
use mathlib.Core.Bool.{false≢true}
use Rattle.std.specs.List.{flat_map, AllByRecursion}
use Rattle.std.specs.Option.{ok_or}
use Rattle.std.proofs.lemmas.Bool.{lt-ltb, eqb-false}
use Rattle.std.proofs.lemmas.List.{length-drop}
use Rattle.event.specs.declared.letter.Letter.{Letter}
use Rattle.event.specs.declared.record.Event.{Event}
use Rattle.event.specs.declared.counts.Counts.{Counts}
use Rattle.event.specs.Ranges.{limit, in_range}
use Rattle.event.specs.Thins.{access}
use Rattle.format.specs.declared.kinds.ObjectKind.{ObjectKind}
use Rattle.format.specs.declared.kinds.ObjectKind.TheVariants.{Mutex, Semaphore}
use Rattle.format.specs.declared.fault.EventFault.{EventFault as Fault}
use Rattle.format.specs.declared.fault.EventFault.TheVariants.{Letter as NoLetter, Range, Region}
use Rattle.format.specs.declared.fault.OrderFault.{OrderFault}
use Rattle.format.specs.declared.fault.OrderFault.TheVariants.{Events, Mutex as BadMutex, Life as BadLife}
use Rattle.format.specs.Parse.{map_ok, and_then}
use Rattle.event.specs.Letters.{letter_at}
use Rattle.event.proofs.Offering.{in_range_parts}
use Rattle.format.specs.Events.{judged, event_body, read_event}
use Rattle.format.specs.Codes.{code_letter, code_event}
use Rattle.format.specs.Standings.{Standing, kind_at, lives, locks, moved, stepped, ruled_from}
use Rattle.format.specs.Encode.{GoodEvent, Numbered, AllBytes}
use Rattle.format.specs.Refusals.{EventFault, letter, range, region, life, mutex}
use Rattle.format.proofs.Steps.{ok_err, err_err, then_err, lift_then_err, map_err, either_err, ok_or_ok}
use Rattle.format.proofs.Inverse.{two_digits, every_rest}
use Rattle.format.proofs.EventsInverse.{letter_sound, event_sound}
use Rattle.format.proofs.Complete.{letter_complete}
use Rattle.format.proofs.Accepting.{Accepts, stepped_ok}
use Rattle.format.proofs.Keeping.{Right, lives_test, allowed_iff, right_more}

no_letter : (o : Option Letter) (i : ℕ) (f : Fault) → ok_or o (NoLetter i) ≡ Err f → (o ≡ None) × (NoLetter i ≡ f)
no_letter None i f h = (refl, err_err {X = Letter} (NoLetter i) f h)
no_letter (Some l) i f h = ok_err l f h

none_spelled : (b : ℕ) → letter_at b ≡ None → (l : Letter) → b ≡ code_letter l → ⊥
none_spelled b h l q =
    let e : None ≡ Some l = sym h ∙ ap letter_at q ∙ letter_complete l in
    let z : ◌≡◌ {A = ℕ} 0 1 = cc in
    omega arith

range_true : (c : Counts) (e : Event) → (e.thread < c.threads) × (e.number < limit c e.letter) → in_range c e ≡ true
range_true c e r = λ i. cond (lt-ltb e.thread c.threads r.0 i) (lt-ltb e.number (limit c e.letter) r.1 i) false

module _ (c : Counts) (kinds : ℕ → ObjectKind) (es : List Event) where
  judged_fault : (i : ℕ) (e : Event) (bs more : List ℕ) (f : Fault) → e.place ≡ i → bs ≡ code_event e ++ more → judged c e ≡ Err f → EventFault c kinds es i bs (Events f)
  judged_fault i e bs more f p code h =
      let Of : Fault → Type 0 = λ g. EventFault c kinds es i bs (Events g) in
      ⊎_elim
      (λ r.
      let w = in_range_parts c e r.0 in
      ⊎_elim
      (λ a. ok_err e f a.1)
      (λ a.
      ⊎_elim
      (λ z. ok_err e f z.1)
      (λ z. subst Of (ap Region (sym p) ∙ err_err {X = Event} (Region e.place) f z.1) (region e more code w.0 w.1 a.0 (eqb-false e.region 0 z.0)))
      (either_err (eqb e.region 0) (Ok e) (Err (Region e.place)) f a.1))
      (either_err (access e) (Ok e) (cond (eqb e.region 0) (Ok e) (Err (Region e.place))) f r.1))
      (λ o. subst Of (ap Range (sym p) ∙ err_err {X = Event} (Range e.place) f o.1) (range e more code (λ r. false≢true (sym o.0 ∙ range_true c e r))))
      (either_err (in_range c e) (cond (access e) (Ok e) (cond (eqb e.region 0) (Ok e) (Err (Region e.place)))) (Err (Range e.place)) f h)

  event_fault : (i : ℕ) (bs : List ℕ) (f : Fault) → 6 ≤ length bs → AllBytes bs → read_event c i bs ≡ Err f → EventFault c kinds es i bs (Events f)
  event_fault i [] f n k h = absurd (omega arith)
  event_fault i (l ∷ []) f n k h = absurd (omega arith)
  event_fault i (l ∷ t ∷ []) f n k h = absurd (omega arith)
  event_fault i (l ∷ t ∷ a₁ ∷ []) f n k h = absurd (omega arith)
  event_fault i (l ∷ t ∷ a₁ ∷ a₂ ∷ []) f n k h = absurd (omega arith)
  event_fault i (l ∷ t ∷ a₁ ∷ a₂ ∷ b₁ ∷ []) f n k h = absurd (omega arith)
  event_fault i (l ∷ t ∷ a₁ ∷ a₂ ∷ b₁ ∷ b₂ ∷ bs) f n k h =
      let all = l ∷ t ∷ a₁ ∷ a₂ ∷ b₁ ∷ b₂ ∷ bs in
      ⊎_elim
      (λ e.
      let o = no_letter (letter_at l) i f e in
      subst (λ g. EventFault c kinds es i all (Events g)) o.1 (letter l (t ∷ a₁ ∷ a₂ ∷ b₁ ∷ b₂ ∷ bs) refl (none_spelled l o.0)))
      (λ s.
      let e : Event = record { place = i; thread = t; letter = s.0; number = 256 * a₁ + a₂; region = 256 * b₁ + b₂ } in
      let q = letter_sound l s.0 (ok_or_ok (letter_at l) (NoLetter i) s.0 s.1) in
      judged_fault i e all bs f refl (λ v. q v ∷ t ∷ (two_digits a₁ a₂ k.1.1.1.0 v ++ (two_digits b₁ b₂ k.1.1.1.1.1.0 v ++ bs))) s.2)
      (then_err (ok_or (letter_at l) (NoLetter i)) (event_body c i all) f h)

not_exclusive : {X : Type 0} (k : ObjectKind) → ((k ≡ Mutex → X) → ⊥) → (k ≡ Mutex) × (X → ⊥)
not_exclusive Mutex h = (refl, λ x. h (λ q. x))
not_exclusive Semaphore h = absurd (h (λ q. let z : ◌≡◌ {A = ℕ} 0 1 = cc in absurd (omega arith)))

-- an event that breaks a rule: thread life first
step_fault : (c : Counts) (ks : List ObjectKind) (L : List Event) (i : ℕ) (s : Standing) (e : Event) (bs more : List ℕ) (f : OrderFault) → Right ks L i s → GoodEvent c e → e.place ≡ i → bs ≡ code_event e ++ more → stepped ks s e ≡ Err f → EventFault c (kind_at ks) L i bs f
step_fault c ks L i s e bs more f r g p code h =
    let both = allowed_iff c ks L i s e r g in
    let lived = lives_test c ks L i s e r g in
    ⊎_elim
    (λ t.
    ⊎_elim
    (λ u. ok_err (moved s e) f u.1)
    (λ u.
    let no = not_exclusive (kind_at ks e.number) (λ x. false≢true (sym u.0 ∙ (both.1 (record { life = lived.0 t.0; mutex = x })).1)) in
    subst (EventFault c (kind_at ks) L i bs) (ap BadMutex (sym p) ∙ err_err {X = Standing} (BadMutex e.place) f u.1) (mutex e more code g (lived.0 t.0) no.0 no.1))
    (either_err (locks ks s.holders e) (Ok (moved s e)) (Err (BadMutex e.place)) f t.1))
    (λ t. subst (EventFault c (kind_at ks) L i bs) (ap BadLife (sym p) ∙ err_err {X = Standing} (BadLife e.place) f t.1) (life e more code g (λ x. false≢true (sym t.0 ∙ lived.1 x))))
    (either_err (lives s.stages e) (cond (locks ks s.holders e) (Ok (moved s e)) (Err (BadMutex e.place))) (Err (BadLife e.place)) f h)

-- the good events before the faulty one
pub record Until (ks : List ObjectKind) (c : Counts) (s : Standing) (L : List Event) (i n : ℕ) (bs : List ℕ) (f : OrderFault) : Type 0 where
  pub events : List Event
  pub more : List ℕ
  pub bytes : bs ≡ flat_map code_event events ++ more
  pub good : AllByRecursion (GoodEvent c) events
  pub numbered : Numbered i events
  pub accepts : Accepts ks s events
  pub fewer : length events < n
  pub fault : EventFault c (kind_at ks) (L ++ events) (i + length events) more f

at_once : (ks : List ObjectKind) (c : Counts) (s : Standing) (L : List Event) (i n : ℕ) (bs : List ℕ) (f : OrderFault) → EventFault c (kind_at ks) L i bs f → Until ks c s L i (suc n) bs f
at_once ks c s L i n bs f x = record {
  events = [];
  more = bs;
  bytes = refl;
  good = tt;
  numbered = tt;
  accepts = tt;
  fewer = omega arith;
  fault = subst (λ l. EventFault c (kind_at ks) l (i + 0) bs f) (sym (append-nil L)) (subst (λ j. EventFault c (kind_at ks) L j bs f) (sym (add-zero i)) x);
}

pub events_fault : (ks : List ObjectKind) (c : Counts) (s : Standing) (L : List Event) (i n : ℕ) (bs : List ℕ) (f : OrderFault) → Right ks L i s → length bs ≡ 6 * n → AllBytes bs → ruled_from ks c s i n bs ≡ Err f → Until ks c s L i n bs f
events_fault ks c s L i zero bs f r m k h = ok_err [] f h
events_fault ks c s L i (suc n) bs f r m k h =
    let rest : List ℕ = drop 6 bs in
    let K : Event → Result (List Event) OrderFault = λ e. and_then (stepped ks s e) (λ z. map_ok (λ l. e ∷ l) (ruled_from ks c z (i + 1) n rest)) in
    ⊎_elim
    (λ x. at_once ks c s L i n bs f (subst (EventFault c (kind_at ks) L i bs) x.2 (event_fault c (kind_at ks) L i bs x.0 (omega arith) k x.1)))
    (λ x.
    let e = x.0 in
    let one = event_sound c i bs e (omega arith) k x.1 in
    ⊎_elim
    (λ y. at_once ks c s L i n bs f (step_fault c ks L i s e bs rest f r one.0 one.1 one.2 y))
    (λ y.
    let step = stepped_ok ks s e y.0 y.1 in
    let ok = (allowed_iff c ks L i s e r one.0).0 (step.0, step.1) in
    let left : length rest ≡ 6 * n = omega (arith, length-drop 6 bs) in
    let bytes = every_rest (λ v. v < 256) (code_event e) rest (subst AllBytes one.2 k) in
    let z = y.2 in
    let again : ruled_from ks c (moved s e) (i + 1) n rest ≡ Err f = map_err (λ l. e ∷ l) (ruled_from ks c (moved s e) (i + 1) n rest) f (subst (λ q. map_ok (λ l. e ∷ l) (ruled_from ks c q (i + 1) n rest) ≡ Err f) (sym step.2) z) in
    let u = events_fault ks c (moved s e) (L ++ e ∷ []) (i + 1) n rest f (right_more c ks L i s e r one.0 one.1 ok) left bytes again in
    record {
      events = e ∷ u.events;
      more = u.more;
      bytes = one.2 ∙ ap (λ l. code_event e ++ l) u.bytes ∙ sym (append_assoc (code_event e) (flat_map code_event u.events) u.more);
      good = (one.0, u.good);
      numbered = (one.1, u.numbered);
      accepts = (step.0, step.1, u.accepts);
      fewer = omega (arith, u.fewer);
      fault =
          subst (λ l. EventFault c (kind_at ks) l (i + length (e ∷ u.events)) u.more f) (append_assoc L (e ∷ []) u.events)
          (subst (λ j. EventFault c (kind_at ks) ((L ++ e ∷ []) ++ u.events) j u.more f) (omega arith) u.fault);
    })
    (then_err (stepped ks s e) (λ z. map_ok (λ l. e ∷ l) (ruled_from ks c z (i + 1) n rest)) f x.2))
    (lift_then_err Events (read_event c i bs) K f h)

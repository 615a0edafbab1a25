-- Going over n events one by one.
use Rattle.std.proofs.Common.{◌≡◌, ◌<◌, ℕ, zero, suc, ◌+◌, ◌*◌, ◌≤◌, Bool, true, false, cond, eqb, leb, List, [], ◌∷◌, length, get_or, drop, Ok, Err, Result, sym, refl, ap, ◌∙◌, arith}
use Rattle.std.proofs.lemmas.List.{length-drop}
use Rattle.std.proofs.lemmas.Bool.{le-leb, lt-leb, cond-true, cond-false}
use Rattle.std.specs.Option.{ok_or}
use Rattle.event.specs.declared.record.Event.{Event}
use Rattle.event.specs.declared.counts.Counts.{Counts}
use Rattle.event.specs.Ranges.{in_range}
use Rattle.event.specs.Thins.{access}
use Rattle.format.specs.declared.kinds.ObjectKind.{ObjectKind}
use Rattle.format.specs.declared.fault.EventFault.{EventFault}
use Rattle.format.specs.declared.fault.EventFault.TheVariants.{Letter as NoLetter, Range, Region}
use Rattle.format.specs.declared.fault.OrderFault.{OrderFault}
use Rattle.format.specs.declared.fault.OrderFault.TheVariants.{Events}
use Rattle.format.specs.Parse.{map_ok, lift, and_then}
use Rattle.event.specs.Letters.{letter_at}
use Rattle.format.specs.Events.{judged, event_body, read_event, got_event, got_events}
use Rattle.format.specs.Standings.{Standing, stepped, ruled_from}
use Rattle.format.proofs.Steps.{err_ok, ok_ok, then_ok, lift_then_ok, map_ok_parts}

abbrev pub verdict : Result (List Event) OrderFault → Result (Unit {0}) OrderFault
verdict r = map_ok (λ _. tt) r

verdict_cons : (e : Event) (r : Result (List Event) OrderFault) → verdict (map_ok (λ es. e ∷ es) r) ≡ verdict r
verdict_cons e (Ok es) = refl
verdict_cons e (Err f) = refl

verdict_moved : (e : Event) (z : Result Standing OrderFault) (f : Standing → Result (List Event) OrderFault) → verdict (and_then z (λ y. map_ok (λ es. e ∷ es) (f y))) ≡ and_then z (λ y. verdict (f y))
verdict_moved e (Ok y) f = verdict_cons e (f y)
verdict_moved e (Err x) f = refl

verdict_then : (r : Result Event OrderFault) (z : Event → Result Standing OrderFault) (f : Standing → Result (List Event) OrderFault) → verdict (and_then r (λ e. and_then (z e) (λ y. map_ok (λ es. e ∷ es) (f y)))) ≡ and_then r (λ e. and_then (z e) (λ y. verdict (f y)))
verdict_then (Ok e) z f = verdict_moved e (z e) f
verdict_then (Err x) z f = refl

-- one event of n, whatever comes of it
pub verdict_step : (ks : List ObjectKind) (c : Counts) (s : Standing) (i n m : ℕ) (bs : List ℕ) → n ≡ suc m → verdict (ruled_from ks c s i n bs) ≡ and_then (lift Events (read_event c i bs)) (λ e. and_then (stepped ks s e) (λ z. verdict (ruled_from ks c z (i + 1) m (drop 6 bs))))
verdict_step ks c s i n m bs e =
    ap (λ n. verdict (ruled_from ks c s i n bs)) e ∙ verdict_then (lift Events (read_event c i bs)) (stepped ks s) (λ z. ruled_from ks c z (i + 1) m (drop 6 bs))

-- what the verdict says of the events
pub told : (x : Result (Unit {0}) OrderFault) (r : Result (List Event) OrderFault) (g : List Event) → ((es : List Event) → r ≡ Ok es → g ≡ es) → verdict r ≡ x → map_ok (λ _. g) x ≡ r
told x (Ok es) g k h = ap (map_ok (λ _. g)) (sym h) ∙ ap Ok (k es refl)
told x (Err e) g k h = ap (map_ok (λ _. g)) (sym h)

-- one event of n that keeps the rules
pub ruled_more : (ks : List ObjectKind) (c : Counts) (s : Standing) (i n : ℕ) (bs : List ℕ) (es : List Event) → ruled_from ks c s i (suc n) bs ≡ Ok es → (e : Event) × (z : Standing) × (fs : List Event) × (read_event c i bs ≡ Ok e) × (stepped ks s e ≡ Ok z) × (ruled_from ks c z (i + 1) n (drop 6 bs) ≡ Ok fs) × (e ∷ fs ≡ es)
ruled_more ks c s i n bs es h =
    let a = lift_then_ok Events (read_event c i bs) (λ e. and_then (stepped ks s e) (λ z. map_ok (λ l. e ∷ l) (ruled_from ks c z (i + 1) n (drop 6 bs)))) es h in
    let e = a.0 in
    let b = then_ok (stepped ks s e) (λ z. map_ok (λ l. e ∷ l) (ruled_from ks c z (i + 1) n (drop 6 bs))) es a.2 in
    let d = map_ok_parts (λ l. e ∷ l) (ruled_from ks c b.0 (i + 1) n (drop 6 bs)) es b.2 in
    (e, b.0, d.0, a.1, b.1, d.1, d.2)

ruled_length : (ks : List ObjectKind) (c : Counts) (s : Standing) (i n : ℕ) (bs : List ℕ) (es : List Event) → ruled_from ks c s i n bs ≡ Ok es → length es ≡ n
ruled_length ks c s i zero bs es h = sym (ap length (ok_ok {E = OrderFault} [] es h))
ruled_length ks c s i (suc n) bs es h =
    let a = ruled_more ks c s i n bs es h in
    sym (ap length a.6) ∙ ap suc (ruled_length ks c a.1 (i + 1) n (drop 6 bs) a.2 a.5)

pub got_events_is : (ks : List ObjectKind) (c : Counts) (s : Standing) (i n : ℕ) (bs : List ℕ) (es : List Event) → length bs ≡ 6 * n → ruled_from ks c s i n bs ≡ Ok es → got_events c i n bs ≡ es
got_events_is ks c s i zero bs es m h = ok_ok {E = OrderFault} [] es h
got_events_is ks c s i (suc n) bs es m h =
    let a = ruled_more ks c s i n bs es h in
    let left : length (drop 6 bs) ≡ 6 * n = simp length-drop (omega arith) in
    cond-true (leb 6 (length bs)) _ _ (le-leb 6 (length bs) (omega arith))
    ∙ (λ v. got_event (a.3 v) (got_events_is ks c a.1 (i + 1) n (drop 6 bs) a.2 left a.5 v))
    ∙ a.6

-- one event of n that is handed out again
pub got_step : (c : Counts) (i n m : ℕ) (bs : List ℕ) → n ≡ suc m → 6 ≤ length bs → got_events c i n bs ≡ got_event (read_event c i bs) (got_events c (i + 1) m (drop 6 bs))
got_step c i n m bs e h = ap (λ n. got_events c i n bs) e ∙ cond-true (leb 6 (length bs)) _ _ (le-leb 6 (length bs) h)

-- where no event's bytes are left, none is handed out
pub got_short : (c : Counts) (i n : ℕ) (bs : List ℕ) → length bs < 6 → got_events c i n bs ≡ []
got_short c i zero bs h = refl
got_short c i (suc n) bs h = cond-false (leb 6 (length bs)) _ _ (lt-leb 6 (length bs) h)

-- an event that was judged good is the one that was judged, and in range
judged_range : (c : Counts) (e x : Event) → judged c e ≡ Ok x → in_range c x ≡ true
judged_range c e x h = go (in_range c e) (access e) (eqb e.region 0) refl h
  where
    go : (b a z : Bool) → in_range c e ≡ b → cond b (cond a (Ok e) (cond z (Ok e) (Err (Region e.place)))) (Err (Range e.place)) ≡ Ok x → in_range c x ≡ true
    go true true z q k = ap (in_range c) (sym (ok_ok {E = EventFault} e x k)) ∙ q
    go true false true q k = ap (in_range c) (sym (ok_ok {E = EventFault} e x k)) ∙ q
    go true false false q k = err_ok _ x k
    go false a z q k = err_ok _ x k

pub event_range : (c : Counts) (i : ℕ) (bs : List ℕ) (e : Event) → Ok e ≡ read_event c i bs → in_range c e ≡ true
event_range c i bs e h =
    let a = then_ok (ok_or (letter_at (get_or bs 0 0)) (NoLetter i)) (event_body c i bs) e (sym h) in
    judged_range c _ e a.2

-- after a good event that keeps the rules, the verdict is that on the rest
pub verdict_good : (ks : List ObjectKind) (c : Counts) (s z : Standing) (i n m : ℕ) (bs : List ℕ) (e : Event) → n ≡ suc m → Ok e ≡ read_event c i bs → Ok z ≡ stepped ks s e → verdict (ruled_from ks c z (i + 1) m (drop 6 bs)) ≡ verdict (ruled_from ks c s i n bs)
verdict_good ks c s z i n m bs e q h k =
    let rest : Standing → Result (Unit {0}) OrderFault = λ y. verdict (ruled_from ks c y (i + 1) m (drop 6 bs)) in
    ap (λ r. and_then r rest) k ∙ ap (λ r. and_then (lift Events r) (λ x. and_then (stepped ks s x) rest)) h ∙ sym (verdict_step ks c s i n m bs q)

-- the events that keep the rules are all there
pub got_length : (ks : List ObjectKind) (c : Counts) (s : Standing) (n : ℕ) (bs : List ℕ) → Ok (got_events c 0 n bs) ≡ ruled_from ks c s 0 n bs → length (got_events c 0 n bs) ≡ n
got_length ks c s n bs h = ruled_length ks c s 0 n bs (got_events c 0 n bs) (sym h)

judged_place : (c : Counts) (e x : Event) → judged c e ≡ Ok x → x.place ≡ e.place
judged_place c e x h = go (in_range c e) (access e) (eqb e.region 0) h
  where
    go : (b a z : Bool) → cond b (cond a (Ok e) (cond z (Ok e) (Err (Region e.place)))) (Err (Range e.place)) ≡ Ok x → x.place ≡ e.place
    go true true z k = ap (λ (v : Event). v.place) (sym (ok_ok {E = EventFault} e x k))
    go true false true k = ap (λ (v : Event). v.place) (sym (ok_ok {E = EventFault} e x k))
    go true false false k = err_ok _ x k
    go false a z k = err_ok _ x k

-- an event has the place that it was read at
pub event_place : (c : Counts) (i : ℕ) (bs : List ℕ) (e : Event) → Ok e ≡ read_event c i bs → e.place ≡ i
event_place c i bs e h =
    let a = then_ok (ok_or (letter_at (get_or bs 0 0)) (NoLetter i)) (event_body c i bs) e (sym h) in
    judged_place c _ e a.2

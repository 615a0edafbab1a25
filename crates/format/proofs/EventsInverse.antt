-- Events that were read are what their bytes say.
use Rattle.std.proofs.Common.{◌≡◌, ℕ, zero, suc, ◌+◌, ◌*◌, ◌<◌, ◌≤◌, Bool, true, false, cond, eqb, List, [], ◌∷◌, ◌++◌, length, drop, Some, None, Ok, Err, Option, sym, refl, ap, ◌∙◌, subst, arith}
use Rattle.std.specs.List.{flat_map, AllByRecursion}
use Rattle.std.specs.Option.{ok_or}
use Rattle.std.proofs.lemmas.Bool.{eqb-true}
use Rattle.std.proofs.lemmas.List.{length-drop, nil_from_length}
use Rattle.event.specs.declared.letter.Letter.{Letter}
use Rattle.event.specs.declared.letter.Letter.TheVariants.{Read, Write, Acquire, Release, Fork, Join, Begin, End, Strong, Weak, Downgrade, Stop}
use Rattle.event.specs.declared.record.Event.{Event}
use Rattle.event.specs.declared.counts.Counts.{Counts}
use Rattle.event.specs.Ranges.{in_range}
use Rattle.event.specs.Thins.{access}
use Rattle.event.proofs.Offering.{in_range_parts}
use Rattle.format.specs.declared.kinds.ObjectKind.{ObjectKind}
use Rattle.format.specs.declared.fault.EventFault.{EventFault}
use Rattle.format.specs.declared.fault.EventFault.TheVariants.{Letter as NoLetter, Range, Region}
use Rattle.format.specs.declared.fault.OrderFault.{OrderFault}
use Rattle.event.specs.Letters.{letter_at}
use Rattle.format.specs.Events.{judged, event_body, read_event}
use Rattle.format.specs.Standings.{Standing, ruled_from}
use Rattle.format.specs.Codes.{code_letter, code_event}
use Rattle.format.specs.Encode.{GoodEvent, Numbered, AllBytes}
use Rattle.format.proofs.Steps.{ok_ok, then_ok, if_ok, ok_or_ok}
use Rattle.format.proofs.Inverse.{two_digits, every_rest}
use Rattle.format.proofs.Checks.{ruled_more}
use Rattle.format.proofs.Accepting.{Accepts, stepped_ok}

pick : (b n : ℕ) (m l : Letter) (r : Option Letter) → code_letter m ≡ n → (r ≡ Some l → b ≡ code_letter l) → cond (eqb b n) (Some m) r ≡ Some l → b ≡ code_letter l
pick b n m l r q k h = from (eqb b n) (eqb-true b n) h where
  from : (t : Bool) → (t ≡ true → b ≡ n) → cond t (Some m) r ≡ Some l → b ≡ code_letter l
  from true e h = let s : m ≡ l = cc in e refl ∙ sym q ∙ ap code_letter s
  from false e h = k h

pub letter_sound : (b : ℕ) (l : Letter) → letter_at b ≡ Some l → b ≡ code_letter l
letter_sound b l =
    pick b 114 Read l _ refl
    (pick b 119 Write l _ refl
    (pick b 97 Acquire l _ refl
    (pick b 108 Release l _ refl
    (pick b 102 Fork l _ refl
    (pick b 106 Join l _ refl
    (pick b 98 Begin l _ refl
    (pick b 101 End l _ refl
    (pick b 77 Strong l _ refl
    (pick b 78 Weak l _ refl
    (pick b 68 Downgrade l _ refl
    (pick b 81 Stop l None refl (λ h. cc))))))))))))

region_zero : (t : Bool) (n i : ℕ) (e x : Event) → cond t (Ok e) (cond (eqb n 0) (Ok e) (Err (Region i))) ≡ Ok x → (t ≡ false → n ≡ 0) × (e ≡ x)
region_zero true n i e x h = (λ f. let z : ◌≡◌ {A = ℕ} 0 1 = cc in absurd (omega arith), ok_ok {E = EventFault} e x h)
region_zero false n i e x h = let s = if_ok (eqb n 0) (Ok e) (Region i) x h in (λ f. eqb-true n 0 s.0, ok_ok e x s.1)

judged_sound : (c : Counts) (e x : Event) → judged c e ≡ Ok x → GoodEvent c e × (e ≡ x)
judged_sound c e x h =
    let a = if_ok (in_range c e) (cond (access e) (Ok e) (cond (eqb e.region 0) (Ok e) (Err (Region e.place)))) (Range e.place) x h in
    let r = in_range_parts c e a.0 in
    let z = region_zero (access e) e.region e.place e x a.1 in
    ((r.0, r.1, z.0), z.1)

pub event_sound : (c : Counts) (i : ℕ) (bs : List ℕ) (x : Event) → 6 ≤ length bs → AllBytes bs → read_event c i bs ≡ Ok x → GoodEvent c x × (x.place ≡ i) × (bs ≡ code_event x ++ drop 6 bs)
event_sound c i [] x n k h = absurd (omega arith)
event_sound c i (l ∷ []) x n k h = absurd (omega arith)
event_sound c i (l ∷ t ∷ []) x n k h = absurd (omega arith)
event_sound c i (l ∷ t ∷ a₁ ∷ []) x n k h = absurd (omega arith)
event_sound c i (l ∷ t ∷ a₁ ∷ a₂ ∷ []) x n k h = absurd (omega arith)
event_sound c i (l ∷ t ∷ a₁ ∷ a₂ ∷ b₁ ∷ []) x n k h = absurd (omega arith)
event_sound c i (l ∷ t ∷ a₁ ∷ a₂ ∷ b₁ ∷ b₂ ∷ bs) x n k h =
    let all = l ∷ t ∷ a₁ ∷ a₂ ∷ b₁ ∷ b₂ ∷ bs in
    let a = then_ok (ok_or (letter_at l) (NoLetter i)) (event_body c i all) x h in
    let e : Event = record { place = i; thread = t; letter = a.0; number = 256 * a₁ + a₂; region = 256 * b₁ + b₂ } in
    let j = judged_sound c e x a.2 in
    let q = letter_sound l a.0 (ok_or_ok (letter_at l) (NoLetter i) a.0 a.1) in
    subst (λ (y : Event). GoodEvent c y × (y.place ≡ i) × (all ≡ code_event y ++ bs)) j.1
    (j.0, refl, λ v. q v ∷ t ∷ (two_digits a₁ a₂ k.1.1.1.0 v ++ (two_digits b₁ b₂ k.1.1.1.1.1.0 v ++ bs)))

-- what was read of n events: their bytes, each in range and in its place, and the rules kept
pub record Ruled (ks : List ObjectKind) (c : Counts) (s : Standing) (i n : ℕ) (bs : List ℕ) (es : List Event) : Type 0 where
  pub count : length es ≡ n
  pub good : AllByRecursion (GoodEvent c) es
  pub numbered : Numbered i es
  pub bytes : bs ≡ flat_map code_event es
  pub accepts : Accepts ks s es

pub ruled_sound : (ks : List ObjectKind) (c : Counts) (s : Standing) (i n : ℕ) (bs : List ℕ) (es : List Event) → length bs ≡ 6 * n → AllBytes bs → ruled_from ks c s i n bs ≡ Ok es → Ruled ks c s i n bs es
ruled_sound ks c s i zero bs es m k h =
    subst (λ l. Ruled ks c s i 0 bs l) (ok_ok {E = OrderFault} [] es h) (record { count = refl; good = tt; numbered = tt; bytes = nil_from_length bs m; accepts = tt })
ruled_sound ks c s i (suc n) bs es m k h =
    let a = ruled_more ks c s i n bs es h in
    let e = a.0 in
    let one = event_sound c i bs e (omega arith) k a.3 in
    let left : length (drop 6 bs) ≡ 6 * n = simp length-drop (omega arith) in
    let rest = every_rest (λ v. v < 256) (code_event e) (drop 6 bs) (subst AllBytes one.2 k) in
    let more = ruled_sound ks c a.1 (i + 1) n (drop 6 bs) a.2 left rest a.5 in
    let step = stepped_ok ks s e a.1 a.4 in
    subst (λ l. Ruled ks c s i (suc n) bs l) a.6
    (record {
      count = ap suc more.count;
      good = (one.0, more.good);
      numbered = (one.1, more.numbered);
      bytes = one.2 ∙ ap (λ l. code_event e ++ l) more.bytes;
      accepts = (step.0, step.1, subst (λ z. Accepts ks z a.2) (sym step.2) more.accepts);
    })

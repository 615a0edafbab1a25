-- The encoding of lawful contents is read as these.
use Rattle.std.proofs.Common.{◌≡◌, ℕ, suc, ◌+◌, ◌*◌, ◌/◌, ◌%◌, ◌≤◌, Bool, true, false, cond, eqb, ltb, leb, List, [], ◌∷◌, ◌++◌, length, take, drop, Some, Ok, Err, Result, sym, refl, ap, ◌∙◌, append_assoc, arith, length-append}
use native.Mathlib.Nat.{div-add-mod}
use Rattle.std.specs.List.{flat_map, AllByRecursion}
use Rattle.std.specs.Option.{ok_or}
use Rattle.std.proofs.lemmas.List.{take_at, drop_at, length-map}
use Rattle.std.proofs.lemmas.Bool.{le-leb, lt-ltb, le-ltb, eq-eqb}
use Rattle.event.specs.declared.letter.Letter.{Letter}
use Rattle.event.specs.declared.letter.Letter.TheVariants.{Read, Write, Acquire, Release, Fork, Join, Begin, End, Strong, Weak, Downgrade, Stop}
use Rattle.event.specs.declared.record.Event.{Event}
use Rattle.event.specs.declared.counts.Counts.{Counts}
use Rattle.event.specs.Ranges.{limit, in_range}
use Rattle.event.specs.Thins.{access}
use Rattle.format.specs.declared.fault.ByteFault.TheVariants.{Ends}
use Rattle.format.specs.declared.fault.SectionFault.TheVariants.{Bytes, Entry, Count}
use Rattle.format.specs.declared.fault.EventFault.{EventFault}
use Rattle.format.specs.declared.fault.EventFault.TheVariants.{Letter as NoLetter, Range, Region, Sections}
use Rattle.format.specs.declared.fault.OrderFault.TheVariants.{Events}
use Rattle.format.specs.declared.kinds.SectionKind.{SectionKind}
use Rattle.format.specs.declared.kinds.SectionKind.TheVariants.{Threads, Objects, Variables}
use Rattle.format.specs.declared.kinds.ObjectKind.{ObjectKind}
use Rattle.format.specs.declared.kinds.ObjectKind.TheVariants.{Mutex, Semaphore}
use Rattle.format.specs.Parse.{map_ok, lift, and_then, here, take_from, two_from, four_from}
use Rattle.format.specs.Names.{within, all_good_bytes, name_from}
use Rattle.format.specs.Items.{Item, thread, object, variable, named, item_from, items_from, cons_item, section_body, section_from}
use Rattle.format.specs.Codes.{two, four, code_name, code_item, code_section, code_letter, code_event}
use Rattle.event.specs.Letters.{letter_at}
use Rattle.format.specs.Events.{judged, event_body, read_event}
use Rattle.format.specs.Standings.{Standing, stepped, moved, fresh, ruled_from, kind_of, kinds_of, kind_at, kind_table}
use Rattle.format.specs.Layout.{magic_body, magic_from, block_body, block_from, laid_as, with_variables, with_objects, with_threads, with_magic, layout}
use Rattle.format.specs.Trace.{Contents, declared_counts, contents, ordered, read_trace}
use Rattle.format.specs.Encode.{encode, GoodName, Good, GoodEvent, Numbered, Lawful}
use Rattle.format.proofs.Steps.{ok_then, ok_lift, ok_lift_then, ok_map, ok_if, ok_unless}
use Rattle.format.proofs.Inverse.{within_from}
use Rattle.format.proofs.Accepting.{Accepts, ok_stepped}
use Rattle.format.proofs.Keeping.{accepts_iff, keeps_kinds}
use Rattle.format.proofs.Tables.{table_kinds}

take_complete : (p : ℕ) (xs rest : List ℕ) → take_from p (length xs) (xs ++ rest) ≡ Ok (xs, rest)
take_complete p xs rest =
    ok_if (leb (length xs) (length (xs ++ rest))) (Ok (take (length xs) (xs ++ rest), drop (length xs) (xs ++ rest))) (Ends p) (le-leb _ _ (simp length-append (omega arith)))
    ∙ (λ i. Ok (take_at xs rest (length xs) refl i, drop_at xs rest (length xs) refl i))

name_complete : (p : ℕ) (ns rest : List ℕ) → GoodName ns → name_from p (code_name ns ++ rest) ≡ Ok (ns, rest)
name_complete p ns rest g =
    ok_if (within 1 31 (length ns)) _ (Entry p) (within_from 1 31 (length ns) g.0 g.1)
    ∙ ok_if (all_good_bytes (take (length ns) (ns ++ rest))) (lift Bytes (take_from p (length ns) (ns ++ rest))) (Entry p) (ap all_good_bytes (take_at ns rest (length ns) refl) ∙ g.2)
    ∙ ok_lift Bytes (take_complete p ns rest)

named_complete : (f : List ℕ → Item) (p : ℕ) (ns rest : List ℕ) → GoodName ns → named f p (code_name ns ++ rest) ≡ Ok (f ns, rest)
named_complete f p ns rest g = ok_map (λ x. (f x.0, x.1)) (name_complete p ns rest g)

pub item_complete : (k : SectionKind) (p : ℕ) (i : Item) (rest : List ℕ) → Good k i → item_from k p (code_item i ++ rest) ≡ Ok (i, rest)
item_complete Threads p (thread n) rest g = named_complete thread p n rest g
item_complete Threads p (object k n) rest g = absurd g
item_complete Threads p (variable n) rest g = absurd g
item_complete Objects p (thread n) rest g = absurd g
item_complete Objects p (object Mutex n) rest g = named_complete (object Mutex) p n rest g
item_complete Objects p (object Semaphore n) rest g = named_complete (object Semaphore) p n rest g
item_complete Objects p (variable n) rest g = absurd g
item_complete Variables p (thread n) rest g = absurd g
item_complete Variables p (object k n) rest g = absurd g
item_complete Variables p (variable n) rest g = named_complete variable p n rest g

items_complete : (k : SectionKind) (t : ℕ) (is : List Item) (rest : List ℕ) → AllByRecursion (Good k) is → items_from k t (length is) (flat_map code_item is ++ rest) ≡ Ok (is, rest)
items_complete k t [] rest g = refl
items_complete k t (i ∷ is) rest g =
    ap (items_from k t (suc (length is))) (append_assoc (code_item i) (flat_map code_item is) rest)
    ∙ ok_then (λ x. map_ok (cons_item x.0) (items_from k t (length is) x.1)) (item_complete k _ i (flat_map code_item is ++ rest) g.0)
    ∙ ok_map (cons_item i) (items_complete k t is rest g.1)

two_complete : (p n : ℕ) (rest : List ℕ) → two_from p (two n ++ rest) ≡ Ok (n, rest)
two_complete p n rest = ok_if (leb 2 (length (two n ++ rest))) _ (Ends p) (le-leb _ _ (omega arith)) ∙ ap (λ m. Ok (m, rest)) (div-add-mod n 256)

four_number : (n : ℕ) → 16777216 * (n / 16777216) + 65536 * (n / 65536 % 256) + 256 * (n / 256 % 256) + n % 256 ≡ n
four_number n = omega arith

four_complete : (p n : ℕ) (rest : List ℕ) → four_from p (four n ++ rest) ≡ Ok (n, rest)
four_complete p n rest = ok_if (leb 4 (length (four n ++ rest))) _ (Ends p) (le-leb _ _ (omega arith)) ∙ ap (λ m. Ok (m, rest)) (four_number n)

section_complete : (k : SectionKind) (low high t : ℕ) (is : List Item) (rest : List ℕ) → low ≤ length is → length is ≤ high → AllByRecursion (Good k) is → section_from k low high t (code_section is ++ rest) ≡ Ok (is, rest)
section_complete k low high t is rest p q g =
    let at = here t (code_section is ++ rest) in
    ok_lift_then Bytes (section_body k low high t at) (two_complete at (length is) (flat_map code_item is ++ rest))
    ∙ ok_if (within low high (length is)) _ (Count at) (within_from low high (length is) p q)
    ∙ items_complete k t is rest g

pub letter_complete : (l : Letter) → letter_at (code_letter l) ≡ Some l
letter_complete Read = refl
letter_complete Write = refl
letter_complete Acquire = refl
letter_complete Release = refl
letter_complete Fork = refl
letter_complete Join = refl
letter_complete Begin = refl
letter_complete End = refl
letter_complete Strong = refl
letter_complete Weak = refl
letter_complete Downgrade = refl
letter_complete Stop = refl

region_complete : (t : Bool) (n i : ℕ) (e : Event) → (t ≡ false → n ≡ 0) → ◌≡◌ {A = Result Event EventFault} (cond t (Ok e) (cond (eqb n 0) (Ok e) (Err (Region i)))) (Ok e)
region_complete true n i e h = refl
region_complete false n i e h = ok_if (eqb n 0) (Ok e) (Region i) (eq-eqb n 0 (h refl))

judged_complete : (c : Counts) (e : Event) → GoodEvent c e → judged c e ≡ Ok e
judged_complete c e g =
    ok_if (in_range c e) _ (Range e.place) ((λ i. cond (lt-ltb e.thread c.threads g.0 i) (lt-ltb e.number (limit c e.letter) g.1 i) false))
    ∙ region_complete (access e) e.region e.place e g.2

event_complete : (c : Counts) (i : ℕ) (e : Event) (rest : List ℕ) → GoodEvent c e → e.place ≡ i → read_event c i (code_event e ++ rest) ≡ Ok e
event_complete c i e rest g p =
    ap (λ o. and_then (ok_or o (NoLetter i)) (event_body c i (code_event e ++ rest))) (letter_complete e.letter)
    ∙ (λ v. judged c (record { place = sym p v; thread = e.thread; letter = e.letter; number = div-add-mod e.number 256 v; region = div-add-mod e.region 256 v }))
    ∙ judged_complete c e g

events_complete : (ks : List ObjectKind) (c : Counts) (s : Standing) (i : ℕ) (es : List Event) → AllByRecursion (GoodEvent c) es → Numbered i es → Accepts ks s es → ruled_from ks c s i (length es) (flat_map code_event es) ≡ Ok es
events_complete ks c s i [] g n a = refl
events_complete ks c s i (e ∷ es) g n a =
    ok_lift_then Events (λ x. and_then (stepped ks s x) (λ z. map_ok (λ l. x ∷ l) (ruled_from ks c z (i + 1) (length es) (flat_map code_event es)))) (event_complete c i e (flat_map code_event es) g.0 n.0)
    ∙ ok_then (λ z. map_ok (λ l. e ∷ l) (ruled_from ks c z (i + 1) (length es) (flat_map code_event es))) (ok_stepped ks s e a.0 a.1)
    ∙ ok_map (λ l. e ∷ l) (events_complete ks c (moved s e) (i + 1) es g.1 n.1 a.2)

events_size : (es : List Event) → length (flat_map code_event es) ≡ 6 * length es
events_size [] = refl
events_size (e ∷ es) = let h = events_size es in omega arith

block_complete : (t : ℕ) (es : List Event) → length es ≤ 1000000 → block_from t (four (length es) ++ flat_map code_event es) ≡ Ok (length es, flat_map code_event es)
block_complete t es q =
    let n = length es in
    let l = flat_map code_event es in
    let at = here t (four n ++ l) in
    let s = events_size es in
    ok_lift_then Bytes (block_body t at) (four_complete at n l)
    ∙ ok_if (within 0 1000000 n) _ (Count at) (within_from 0 1000000 n (omega arith) q)
    ∙ ok_unless (ltb (length l) (6 * n)) _ _ (le-ltb (length l) (6 * n) (omega arith))
    ∙ ok_unless (ltb (6 * n) (length l)) _ (Ok (n, l)) (le-ltb (6 * n) (length l) (omega arith))

magic_complete : (rest : List ℕ) → magic_from (84 ∷ 67 ∷ 1 ∷ rest) ≡ Ok rest
magic_complete rest = ok_then magic_body (ok_if (leb 3 (length (84 ∷ 67 ∷ 1 ∷ rest))) _ (Ends 0) (le-leb _ _ (omega arith)))

-- the sections of an encoding
layout_complete : (c : Contents) → Lawful c → layout (encode c) ≡ Ok (laid_as c.threads c.objects c.variables (length c.events, flat_map code_event c.events))
layout_complete c w =
    let t = length (encode c) in
    let r4 = four (length c.events) ++ flat_map code_event c.events in
    let r3 = code_section c.variables ++ r4 in
    let r2 = code_section c.objects ++ r3 in
    ok_lift_then Bytes (with_magic t) (magic_complete (code_section c.threads ++ r2))
    ∙ ok_then (with_threads t) (section_complete Threads 1 16 t c.threads r2 w.some_threads w.few_threads w.threads_good)
    ∙ ok_then (with_objects t c.threads) (section_complete Objects 0 512 t c.objects r3 (omega arith) w.few_objects w.objects_good)
    ∙ ok_then (with_variables t c.threads c.objects) (section_complete Variables 0 256 t c.variables r4 (omega arith) w.few_variables w.variables_good)
    ∙ ok_map (laid_as c.threads c.objects c.variables) (block_complete t c.events w.few_events)

pub read_complete : (c : Contents) → Lawful c → read_trace (encode c) ≡ Ok c
read_complete c w =
    let ks = kind_table (kinds_of c.objects) in
    let counts = declared_counts c.threads c.objects c.variables in
    let few : length (kinds_of c.objects) ≤ 512 = rw (length-map c.objects kind_of) w.few_objects in
    let keeps = keeps_kinds (kind_at (kinds_of c.objects)) (kind_at ks) c.events (λ m. sym (table_kinds (kinds_of c.objects) few m)) w.rules in
    ok_lift_then (λ s. Events (Sections s)) ordered (layout_complete c w)
    ∙ ok_map (contents c.threads c.objects c.variables) (events_complete ks counts fresh 0 c.events w.events_good w.numbered ((accepts_iff counts ks c.events w.events_good w.numbered).1 keeps))

-- The first fault of a file that is refused: all that stands before the faulty item is as it should be, and the item is faulty in the way that the
-- fault says. An item is the first three bytes, a count, an entry or an event. Of one event, an unknown letter is told before a thread or a
-- number out of range, this before a region where none belongs, this before thread life, and this before the mutex rule. Where the events' count is within
-- its limits, missing or left bytes are told before any fault of an event.
use Rattle.std.specs.Prelude.{◌≡◌, ℕ, ◌+◌, ◌*◌, ◌/◌, ◌<◌, ◌≤◌, false, ◌⊎◌, List, [], ◌∷◌, ◌++◌, length, take, ◌≢◌}
use Rattle.std.specs.List.{flat_map, AllByRecursion}
use Rattle.event.specs.declared.letter.Letter.{Letter}
use Rattle.event.specs.declared.record.Event.{Event}
use Rattle.event.specs.declared.counts.Counts.{Counts}
use Rattle.event.specs.Ranges.{limit}
use Rattle.event.specs.Thins.{access}
use Rattle.format.specs.declared.kinds.ObjectKind.{ObjectKind}
use Rattle.format.specs.declared.kinds.ObjectKind.TheVariants.{Mutex}
use Rattle.format.specs.declared.kinds.SectionKind.{SectionKind}
use Rattle.format.specs.declared.kinds.SectionKind.TheVariants.{Threads, Objects, Variables}
use Rattle.format.specs.declared.fault.ByteFault.TheVariants.{Ends, Magic}
use Rattle.format.specs.declared.fault.SectionFault.{SectionFault}
use Rattle.format.specs.declared.fault.SectionFault.TheVariants.{Bytes, Count, Entry, Left}
use Rattle.format.specs.declared.fault.EventFault.TheVariants.{Sections, Letter as NoLetter, Range, Region}
use Rattle.format.specs.declared.fault.OrderFault.{OrderFault}
use Rattle.format.specs.declared.fault.OrderFault.TheVariants.{Events, Mutex as BadMutex, Life as BadLife}
use Rattle.format.specs.Items.{Item}
use Rattle.format.specs.Codes.{two, four, code_item, code_section, code_letter, code_event}
use Rattle.format.specs.Rules.{Life, Exclusive, Keeps}
use Rattle.format.specs.Standings.{kind_at, kinds_of}
use Rattle.format.specs.Trace.{declared_counts}
use Rattle.format.specs.Encode.{Good, GoodEvent, Numbered}

-- the two lists agree as far as both go
abbrev pub Meets : List ℕ → List ℕ → Type 0
Meets [] ys = Unit {0}
Meets (x ∷ xs) [] = Unit {0}
Meets (x ∷ xs) (y ∷ ys) = (x ≡ y) × Meets xs ys

-- the bytes agree with a good entry, and end before it does
pub record Cut (k : SectionKind) (bs : List ℕ) : Type 0 where
  pub entry : Item
  pub good : Good k entry
  pub meets : Meets bs (code_item entry)
  pub short : length bs < length (code_item entry)

-- no good entry agrees with the bytes as far as both go
abbrev pub Bad : SectionKind → List ℕ → Type 0
Bad k bs = (i : Item) → Good k i → Meets bs (code_item i) → ⊥

-- the entry at the offset p
pub data EntryFault (k : SectionKind) (p : ℕ) (bs : List ℕ) : SectionFault → Type 0 where
  cut : Cut k bs → EntryFault k p bs (Bytes (Ends p))
  bad : Bad k bs → EntryFault k p bs (Entry p)

-- a section whose count stands at the offset p
pub data InSection (k : SectionKind) (low high p : ℕ) (bs : List ℕ) : SectionFault → Type 0 where
  count_cut : length bs < 2 → InSection k low high p bs (Bytes (Ends p))
  count_out : (n : ℕ) (more : List ℕ) → bs ≡ two n ++ more → (n < low) ⊎ (high < n) → InSection k low high p bs (Count p)
  in_entry : (n : ℕ) (is : List Item) (more : List ℕ) {f : SectionFault} → bs ≡ two n ++ (flat_map code_item is ++ more) → low ≤ n → n ≤ high → AllByRecursion (Good k) is → length is < n → EntryFault k (p + 2 + length (flat_map code_item is)) more f → InSection k low high p bs f

-- the event with the place i, after the events es
pub data EventFault (c : Counts) (kinds : ℕ → ObjectKind) (es : List Event) (i : ℕ) (bs : List ℕ) : OrderFault → Type 0 where
  letter : (b : ℕ) (more : List ℕ) → bs ≡ b ∷ more → ((l : Letter) → b ≢ code_letter l) → EventFault c kinds es i bs (Events (NoLetter i))
  range : (e : Event) (more : List ℕ) → bs ≡ code_event e ++ more → ((e.thread < c.threads) × (e.number < limit c e.letter) → ⊥) → EventFault c kinds es i bs (Events (Range i))
  region : (e : Event) (more : List ℕ) → bs ≡ code_event e ++ more → e.thread < c.threads → e.number < limit c e.letter → access e ≡ false → (e.region ≢ 0) → EventFault c kinds es i bs (Events (Region i))
  life : (e : Event) (more : List ℕ) → bs ≡ code_event e ++ more → GoodEvent c e → (Life es e.letter e.thread e.number → ⊥) → EventFault c kinds es i bs (BadLife i)
  mutex : (e : Event) (more : List ℕ) → bs ≡ code_event e ++ more → GoodEvent c e → Life es e.letter e.thread e.number → kinds e.number ≡ Mutex → (Exclusive es e.letter e.thread e.number → ⊥) → EventFault c kinds es i bs (BadMutex i)

-- the events, whose count stands at the offset p
pub data InEvents (c : Counts) (kinds : ℕ → ObjectKind) (p : ℕ) (bs : List ℕ) : OrderFault → Type 0 where
  count_cut : length bs < 4 → InEvents c kinds p bs (Events (Sections (Bytes (Ends p))))
  count_out : (n : ℕ) (more : List ℕ) → bs ≡ four n ++ more → 1000000 < n → InEvents c kinds p bs (Events (Sections (Count p)))
  cut : (n : ℕ) (more : List ℕ) → bs ≡ four n ++ more → n ≤ 1000000 → length more < 6 * n → InEvents c kinds p bs (Events (Sections (Bytes (Ends (p + 4 + 6 * (length more / 6))))))
  left : (n : ℕ) (more : List ℕ) → bs ≡ four n ++ more → n ≤ 1000000 → 6 * n < length more → InEvents c kinds p bs (Events (Sections (Left (p + 4 + 6 * n))))
  in_event : (n : ℕ) (es : List Event) (more : List ℕ) {f : OrderFault} → bs ≡ four n ++ (flat_map code_event es ++ more) → n ≤ 1000000 → length bs ≡ 4 + 6 * n → AllByRecursion (GoodEvent c) es → Numbered 0 es → Keeps kinds es → length es < n → EventFault c kinds es (length es) more f → InEvents c kinds p bs f

abbrev pub GoodSection : SectionKind → ℕ → ℕ → List Item → Type 0
GoodSection k low high is = (low ≤ length is) × (length is ≤ high) × AllByRecursion (Good k) is

abbrev pub magic : List ℕ
magic = 84 ∷ 67 ∷ 1 ∷ []

pub data FirstFault (bs : List ℕ) : OrderFault → Type 0 where
  short : length bs < 3 → FirstFault bs (Events (Sections (Bytes (Ends 0))))
  not_magic : 3 ≤ length bs → (take 3 bs ≢ magic) → FirstFault bs (Events (Sections (Bytes Magic)))
  in_threads : (more : List ℕ) {f : SectionFault} → bs ≡ magic ++ more → InSection Threads 1 16 3 more f → FirstFault bs (Events (Sections f))
  in_objects : (ts : List Item) (more : List ℕ) {f : SectionFault} → bs ≡ magic ++ (code_section ts ++ more) → GoodSection Threads 1 16 ts → InSection Objects 0 512 (3 + length (code_section ts)) more f → FirstFault bs (Events (Sections f))
  in_variables : (ts os : List Item) (more : List ℕ) {f : SectionFault} → bs ≡ magic ++ (code_section ts ++ (code_section os ++ more)) → GoodSection Threads 1 16 ts → GoodSection Objects 0 512 os → InSection Variables 0 256 (3 + length (code_section ts) + length (code_section os)) more f → FirstFault bs (Events (Sections f))
  in_events : (ts os vs : List Item) (more : List ℕ) {f : OrderFault} → bs ≡ magic ++ (code_section ts ++ (code_section os ++ (code_section vs ++ more))) → GoodSection Threads 1 16 ts → GoodSection Objects 0 512 os → GoodSection Variables 0 256 vs → InEvents (declared_counts ts os vs) (kind_at (kinds_of os)) (3 + length (code_section ts) + length (code_section os) + length (code_section vs)) more f → FirstFault bs f

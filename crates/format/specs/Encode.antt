-- The bytes of a trace's contents, and which contents a file can have.
use Rattle.std.specs.Prelude.{◌≡◌, ℕ, ◌+◌, ◌<◌, ◌≤◌, true, false, List, [], ◌∷◌, ◌++◌, length}
use Rattle.std.specs.List.{flat_map, AllByRecursion}
use Rattle.event.specs.declared.record.Event.{Event}
use Rattle.event.specs.declared.counts.Counts.{Counts}
use Rattle.event.specs.Ranges.{limit}
use Rattle.event.specs.Thins.{access}
use Rattle.format.specs.declared.kinds.SectionKind.{SectionKind}
use Rattle.format.specs.declared.kinds.SectionKind.TheVariants.{Threads, Objects, Variables}
use Rattle.format.specs.Names.{all_good_bytes}
use Rattle.format.specs.Items.{Item, thread, object, variable}
use Rattle.format.specs.Codes.{four, code_section, code_event}
use Rattle.format.specs.Standings.{kind_at, kinds_of}
use Rattle.format.specs.Rules.{Keeps}
use Rattle.format.specs.Trace.{Contents, declared_counts}

-- `T`, `C`, 1, the three sections, and the events after their count
abbrev pub encode : Contents → List ℕ
encode c = 84 ∷ 67 ∷ 1 ∷ (code_section c.threads ++ (code_section c.objects ++ (code_section c.variables ++ (four (length c.events) ++ flat_map code_event c.events))))

-- 1 to 31 bytes, each from 0x21 to 0x7E
abbrev pub GoodName : List ℕ → Type 0
GoodName n = (1 ≤ length n) × (length n ≤ 31) × (all_good_bytes n ≡ true)

-- an entry of a section of kind k
abbrev pub Good : SectionKind → Item → Type 0
Good Threads (thread n) = GoodName n
Good Threads (object k n) = ⊥
Good Threads (variable n) = ⊥
Good Objects (thread n) = ⊥
Good Objects (object k n) = GoodName n
Good Objects (variable n) = ⊥
Good Variables (thread n) = ⊥
Good Variables (object k n) = ⊥
Good Variables (variable n) = GoodName n

-- its thread and number are declared, and it has a region only if it is an access
abbrev pub GoodEvent : Counts → Event → Type 0
GoodEvent c e = (e.thread < c.threads) × (e.number < limit c e.letter) × (access e ≡ false → e.region ≡ 0)

-- the places are the indices, from i on
abbrev pub Numbered : ℕ → List Event → Type 0
Numbered i [] = Unit {0}
Numbered i (e ∷ es) = (e.place ≡ i) × Numbered (i + 1) es

-- what a trace file can hold: the counts and names within their limits, events in range, and the rules of threads and mutexes kept
pub record Lawful (c : Contents) : Type 0 where
  pub some_threads : 1 ≤ length c.threads
  pub few_threads : length c.threads ≤ 16
  pub few_objects : length c.objects ≤ 512
  pub few_variables : length c.variables ≤ 256
  pub few_events : length c.events ≤ 1000000
  pub threads_good : AllByRecursion (Good Threads) c.threads
  pub objects_good : AllByRecursion (Good Objects) c.objects
  pub variables_good : AllByRecursion (Good Variables) c.variables
  pub events_good : AllByRecursion (GoodEvent (declared_counts c.threads c.objects c.variables)) c.events
  pub numbered : Numbered 0 c.events
  pub rules : Keeps (kind_at (kinds_of c.objects)) c.events

abbrev pub AllBytes : List ℕ → Type 0
AllBytes bs = AllByRecursion (λ b. b < 256) bs

-- The rules of threads and mutexes, in terms of the events that came before.
use Rattle.std.specs.Prelude.{◌≡◌, ℕ, ◌<◌, ◌⊎◌, List, ◌∷◌, ◌++◌}
use Rattle.event.specs.declared.letter.Letter.{Letter}
use Rattle.event.specs.declared.letter.Letter.TheVariants.{Read, Write, Acquire, Release, Fork, Join, Begin, End, Strong, Weak, Downgrade, Stop}
use Rattle.event.specs.declared.record.Event.{Event}
use Rattle.event.specs.Order.{◌∈◌}
use Rattle.format.specs.declared.kinds.ObjectKind.{ObjectKind}
use Rattle.format.specs.declared.kinds.ObjectKind.TheVariants.{Mutex}

-- some event of L has the property P
abbrev pub Among : List Event → (Event → Type 0) → Type 0
Among L P = (e : Event) × (e ∈ L) × P e

abbrev pub Forks : ℕ → Event → Type 0
Forks t e = (e.letter ≡ Fork) × (e.number ≡ t)

abbrev pub Begins : ℕ → Event → Type 0
Begins t e = (e.letter ≡ Begin) × (e.thread ≡ t)

abbrev pub Ends : ℕ → Event → Type 0
Ends t e = (e.letter ≡ End) × (e.thread ≡ t)

-- thread 0 runs from the start, another from its begin, until its end
pub record Runs (L : List Event) (t : ℕ) : Type 0 where
  pub begun : (t ≡ 0) ⊎ Among L (Begins t)
  pub not_ended : Among L (Ends t) → ⊥

-- a thread other than 0 that nobody forked
pub record NotForked (L : List Event) (t : ℕ) : Type 0 where
  pub other : t ≡ 0 → ⊥
  pub never : Among L (Forks t) → ⊥

-- what thread t may do after L: only a running thread acts, except that a forked one begins; a thread is forked once, and joined when it has ended
abbrev pub Life : List Event → Letter → ℕ → ℕ → Type 0
Life L Read t n = Runs L t
Life L Write t n = Runs L t
Life L Acquire t n = Runs L t
Life L Release t n = Runs L t
Life L Fork t n = Runs L t × NotForked L n
Life L Join t n = Runs L t × Among L (Ends n)
Life L Begin t n = (n ≡ t) × Among L (Forks t) × (Among L (Begins t) → ⊥)
Life L End t n = (n ≡ t) × Runs L t
Life L Strong t n = Runs L t
Life L Weak t n = Runs L t
Life L Downgrade t n = Runs L t
Life L Stop t n = Runs L t

-- thread t acquired the object m, and nobody released it since
pub record Holds (L : List Event) (m t : ℕ) : Type 0 where
  pub by : Event
  pub «in» : by ∈ L
  pub letter : by.letter ≡ Acquire
  pub object : by.number ≡ m
  pub thread : by.thread ≡ t
  pub since : (r : Event) → r ∈ L → r.letter ≡ Release → r.number ≡ m → r.place < by.place

-- a mutex is acquired only when nobody holds it, and released only by its holder
abbrev pub Exclusive : List Event → Letter → ℕ → ℕ → Type 0
Exclusive L Read t n = Unit {0}
Exclusive L Write t n = Unit {0}
Exclusive L Acquire t n = (u : ℕ) → Holds L n u → ⊥
Exclusive L Release t n = Holds L n t
Exclusive L Fork t n = Unit {0}
Exclusive L Join t n = Unit {0}
Exclusive L Begin t n = Unit {0}
Exclusive L End t n = Unit {0}
Exclusive L Strong t n = Unit {0}
Exclusive L Weak t n = Unit {0}
Exclusive L Downgrade t n = Unit {0}
Exclusive L Stop t n = Unit {0}

-- the event may come after L
pub record Allowed (kinds : ℕ → ObjectKind) (L : List Event) (e : Event) : Type 0 where
  pub life : Life L e.letter e.thread e.number
  pub mutex : kinds e.number ≡ Mutex → Exclusive L e.letter e.thread e.number

-- each event may come after those before it
abbrev pub Keeps : (ℕ → ObjectKind) → List Event → Type 0
Keeps kinds es = (L : List Event) (e : Event) (M : List Event) → es ≡ L ++ e ∷ M → Allowed kinds L e

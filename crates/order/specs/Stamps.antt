-- Stamps that events carry from thread to thread through objects.
use Rattle.std.specs.Prelude.{◌≡◌, ℕ, Bool, false, cond, List, [], ◌∷◌, Some, None, Option, ◌==◌}
use mathlib.Core.List.{Memᴰ}
use Rattle.event.specs.declared.object.Object.{Object}
use Rattle.event.specs.declared.object.Object.TheVariants.{Declared, Start, Finish}
use Rattle.event.specs.declared.record.Event.{Event}
use Rattle.event.specs.Entries.{LatestOf}
use Rattle.event.specs.Objects.{released, acquired}
use Rattle.event.specs.Order.{Releases, Chain}

-- an order, and a join that is built upon it: the least upper bound of two, with a least stamp
pub record Laws {S : Type 0} (below : S → S → Type 0) (join : S → S → S) (least : S) : Type 0 where
  pub reflexive : (x : S) → below x x
  pub transitive : (x y z : S) → below x y → below y z → below x z
  pub antisymmetric : (x y : S) → below x y → below y x → x ≡ y
  pub left : (x y : S) → below x (join x y)
  pub right : (x y : S) → below y (join x y)
  pub tight : (x y z : S) → below x z → below y z → below (join x y) z
  pub associative : (x y z : S) → join (join x y) z ≡ join x (join y z)
  pub commutative : (x y : S) → join x y ≡ join y x
  pub idempotent : (x : S) → join x x ≡ x
  pub bottom : (x : S) → below least x

-- an event with what it contributes
pub record Deed (S : Type 0) : Type 0 where
  pub event : Event
  pub gives : S

abbrev pub events : {S : Type 0} → List (Deed S) → List Event
events [] = []
events (x ∷ xs) = x.event ∷ events xs

-- the events of a list, each with what it contributes
abbrev pub deeds : {S : Type 0} → (Event → S) → List Event → List (Deed S)
deeds give [] = []
deeds give (e ∷ L) = record { event = e; gives = give e } ∷ deeds give L

-- e is behind the thread t: a chain leads from it to t's latest event
pub record Behind (L : List Event) (e : Event) (t : ℕ) : Type 0 where
  pub latest : Event
  pub is_latest : LatestOf L t latest
  pub chain : Chain L e latest

-- e is behind the object o: a chain leads from it to a release of o
pub record Leaves (L : List Event) (e : Event) (o : Object) : Type 0 where
  pub by : Event
  pub frees : Releases by o
  pub chain : Chain L e by

-- s is the least upper bound of what the counted deeds give
pub record Bound {S : Type 0} (below : S → S → Type 0) (xs : List (Deed S)) (Counted : Event → Type 0) (s : S) : Type 0 where
  pub upper : (x : Deed S) → Memᴰ x xs → Counted x.event → below x.gives s
  pub least : (b : S) → ((x : Deed S) → Memᴰ x xs → Counted x.event → below x.gives b) → below s b

-- the stamp of each thread and of each object
pub record State (S : Type 0) : Type 0 where
  pub threads : ℕ → S
  pub objects : Object → S

-- of the threads and objects in use, each stamp is the least upper bound of what the events behind the thread or the object give
pub record Sums {S : Type 0} (below : S → S → Type 0) (Thread : ℕ → Type 0) (Used : Object → Type 0) (xs : List (Deed S)) (s : State S) : Type 0 where
  pub thread : (t : ℕ) → Thread t → Bound below xs (λ e. Behind (events xs) e t) (s.threads t)
  pub object : (o : Object) → Used o → Bound below xs (λ e. Leaves (events xs) e o) (s.objects o)

-- every thread, and every object
abbrev pub All : {A : Type 0} → A → Type 0
All _ = Unit {0}

abbrev pub same_object : Object → Object → Bool
same_object (Declared a) (Declared b) = a == b
same_object (Declared a) (Start b) = false
same_object (Declared a) (Finish b) = false
same_object (Start a) (Declared b) = false
same_object (Start a) (Start b) = a == b
same_object (Start a) (Finish b) = false
same_object (Finish a) (Declared b) = false
same_object (Finish a) (Start b) = false
same_object (Finish a) (Finish b) = a == b

module _ {S : Type 0} (join : S → S → S) where
  -- an acquire joins the object's stamp in
  abbrev pub entered : State S → Option Object → S → S
  entered s None x = x
  entered s (Some o) x = join x (s.objects o)

  -- the stamp of the event's thread after the event
  abbrev pub after : State S → Deed S → S
  after s x = join (entered s (acquired x.event) (s.threads x.event.thread)) x.gives

  -- a release joins the thread's stamp into the object's
  abbrev pub left_at : Option Object → S → Object → S → S
  left_at None new o old = old
  left_at (Some r) new o old = cond (same_object r o) (join old new) old

  abbrev pub step : State S → Deed S → State S
  step s x = record {
    threads = λ t. cond (x.event.thread == t) (after s x) (s.threads t);
    objects = λ o. left_at (released x.event) (after s x) o (s.objects o);
  }

  abbrev pub run : State S → List (Deed S) → State S
  run s [] = s
  run s (x ∷ xs) = run (step s x) xs

abbrev pub fresh : {S : Type 0} → S → State S
fresh least = record { threads = λ t. least; objects = λ o. least }

-- The mutex rule: the holder that is remembered of a mutex is the thread that acquired it and has not released it.
use Rattle.std.proofs.Common.{◌≡◌, ℕ, ◌<◌, Bool, true, cond, ◌↔◌, List, [], ◌∷◌, ◌++◌, length, set, Some, None, Option, sym, refl, ap, ◌∙◌, subst, ⊎_elim, arith, length-set}
use mathlib.Core.Bool.{false≢true}
use mathlib.Core.List.Memᴰ
use Rattle.std.proofs.lemmas.Bool.{eqb-true, eq-eqb}
use Rattle.event.specs.declared.letter.Letter.{Letter}
use Rattle.event.specs.declared.letter.Letter.TheVariants.{Read, Write, Acquire, Release, Fork, Join, Begin, End, Strong, Weak, Downgrade, Stop}
use Rattle.event.specs.declared.record.Event.{Event}
use Rattle.event.specs.declared.counts.Counts.{Counts}
use Rattle.event.specs.Order.{◌∈◌}
use Rattle.event.specs.Ranges.{limit}
use Rattle.format.specs.declared.kinds.ObjectKind.{ObjectKind}
use Rattle.format.specs.declared.kinds.ObjectKind.TheVariants.{Mutex, Semaphore}
use Rattle.format.specs.Codes.{code_letter}
use Rattle.format.specs.Rules.{Holds, Exclusive}
use Rattle.format.specs.Standings.{is_mutex, is_free, is_holder, kind_at, holder_at, locks_by, locked_by, locked}
use Rattle.format.proofs.Pasts.{before_or_now, letters_apart, after_set}

-- what a remembered holder says: nobody, or the one thread that holds the mutex
abbrev pub HolderIs : List Event → ℕ → Option ℕ → Type 0
HolderIs L m None = (u : ℕ) → Holds L m u → ⊥
HolderIs L m (Some t) = Holds L m t × ((u : ℕ) → Holds L m u → u ≡ t)

free_iff : (L : List Event) (m : ℕ) (h : Option ℕ) → HolderIs L m h → (is_free h ≡ true) ↔ ((u : ℕ) → Holds L m u → ⊥)
free_iff L m None s = (λ p. s, λ f. refl)
free_iff L m (Some t) s = (λ p. absurd (false≢true p), λ f. absurd (f t s.0))

holder_iff : (L : List Event) (m t : ℕ) (h : Option ℕ) → HolderIs L m h → (is_holder t h ≡ true) ↔ Holds L m t
holder_iff L m t None s = (λ p. absurd (false≢true p), λ k. absurd (s t k))
holder_iff L m t (Some u) s = (λ p. subst (Holds L m) (eqb-true u t p) s.0, λ k. eq-eqb u t (sym (s.1 t k)))

-- each remembered holder of a mutex is right
abbrev pub Held : (ℕ → ObjectKind) → List Event → List (Option ℕ) → Type 0
Held kinds L hs = (m : ℕ) → kinds m ≡ Mutex → m < 512 → HolderIs L m (holder_at hs m)

if_mutex : {P : Type 0} (k : ObjectKind) (b : Bool) → (k ≡ Mutex → (b ≡ true) ↔ P) → (cond (is_mutex k) b true ≡ true) ↔ (k ≡ Mutex → P)
if_mutex Mutex b h = (λ p q. (h refl).0 p, λ f. (h refl).1 (f refl))
if_mutex {P} Semaphore b h = (λ p q. absurd (not_mutex q), λ f. refl)
  where
    not_mutex : Semaphore ≡ Mutex → ⊥
    not_mutex q = let z : ◌≡◌ {A = ℕ} 0 1 = cc in omega arith

always : {P : Type 0} → P → (true ≡ true) ↔ P
always p = (λ q. p, λ q. refl)

nothing : (k : ObjectKind) → (true ≡ true) ↔ (k ≡ Mutex → Unit {0})
nothing k = always (λ q. tt)

-- the test of the mutex rule is the mutex rule
pub locks_iff : (c : Counts) (ks : List ObjectKind) (L : List Event) (hs : List (Option ℕ)) (l : Letter) (t n : ℕ) → Held (kind_at ks) L hs → n < limit c l → (locks_by l t (kind_at ks n) (holder_at hs n) ≡ true) ↔ (kind_at ks n ≡ Mutex → Exclusive L l t n)
locks_iff c ks L hs Read t n h ln = nothing (kind_at ks n)
locks_iff c ks L hs Write t n h ln = nothing (kind_at ks n)
locks_iff c ks L hs Acquire t n h ln = if_mutex (kind_at ks n) _ (λ k. free_iff L n _ (h n k (omega (arith, c.limits))))
locks_iff c ks L hs Release t n h ln = if_mutex (kind_at ks n) _ (λ k. holder_iff L n t _ (h n k (omega (arith, c.limits))))
locks_iff c ks L hs Fork t n h ln = nothing (kind_at ks n)
locks_iff c ks L hs Join t n h ln = nothing (kind_at ks n)
locks_iff c ks L hs Begin t n h ln = nothing (kind_at ks n)
locks_iff c ks L hs End t n h ln = nothing (kind_at ks n)
locks_iff c ks L hs Strong t n h ln = nothing (kind_at ks n)
locks_iff c ks L hs Weak t n h ln = nothing (kind_at ks n)
locks_iff c ks L hs Downgrade t n h ln = nothing (kind_at ks n)
locks_iff c ks L hs Stop t n h ln = nothing (kind_at ks n)

abbrev AcquiresIt : ℕ → Event → Type 0
AcquiresIt m e = (e.letter ≡ Acquire) × (e.number ≡ m)

abbrev ReleasesIt : ℕ → Event → Type 0
ReleasesIt m e = (e.letter ≡ Release) × (e.number ≡ m)

module _ (L : List Event) (e : Event) (m : ℕ) where
  -- an event that does not acquire m gives it to nobody
  held_before : (AcquiresIt m e → ⊥) → (u : ℕ) → Holds (L ++ e ∷ []) m u → Holds L m u
  held_before na u h =
      ⊎_elim
      (λ k. record { by = h.by; «in» = k; letter = h.letter; object = h.object; thread = h.thread; since = λ r i. h.since r (Memᴰ.append_left (e ∷ []) i) })
      (λ s. absurd (na (sym (ap (λ (v : Event). v.letter) s) ∙ h.letter, sym (ap (λ (v : Event). v.number) s) ∙ h.object)))
      (before_or_now L e h.by h.«in»)

  -- an event that does not release m takes it from nobody
  held_still : (ReleasesIt m e → ⊥) → (u : ℕ) → Holds L m u → Holds (L ++ e ∷ []) m u
  held_still nr u h = record {
    by = h.by;
    «in» = Memᴰ.append_left (e ∷ []) h.«in»;
    letter = h.letter;
    object = h.object;
    thread = h.thread;
    since = λ r i p q.
        ⊎_elim (λ k. h.since r k p q) (λ s. absurd (nr (sym (ap (λ (v : Event). v.letter) s) ∙ p, sym (ap (λ (v : Event). v.number) s) ∙ q))) (before_or_now L e r i);
  }

  holder_still : (AcquiresIt m e → ⊥) → (ReleasesIt m e → ⊥) → (h : Option ℕ) → HolderIs L m h → HolderIs (L ++ e ∷ []) m h
  holder_still na nr None s = λ u k. s u (held_before na u k)
  holder_still na nr (Some t) s = (held_still nr t s.0, λ u k. s.1 u (held_before na u k))

module _ (L : List Event) (e : Event) (last : (f : Event) → f ∈ L → f.place < e.place) where
  -- after an acquire of a free mutex its thread holds it, and no other
  now_held : e.letter ≡ Acquire → ((u : ℕ) → Holds L e.number u → ⊥) → HolderIs (L ++ e ∷ []) e.number (Some e.thread)
  now_held q free = (
    record {
      by = e;
      «in» = Memᴰ.append_right L (Memᴰ.head refl);
      letter = q;
      object = refl;
      thread = refl;
      since = λ r i p n. ⊎_elim (last r) (λ s. absurd (let z = letters_apart r (ap (λ (v : Event). v.letter) s ∙ q) p in omega arith)) (before_or_now L e r i);
    },
    λ u h.
        ⊎_elim
        (λ k.
        absurd
        (free u (record { by = h.by; «in» = k; letter = h.letter; object = h.object; thread = h.thread; since = λ r i. h.since r (Memᴰ.append_left (e ∷ []) i) })))
        (λ s. sym h.thread ∙ ap (λ (v : Event). v.thread) s)
        (before_or_now L e h.by h.«in»),
  )

  -- after a release nobody holds it: an acquire that is still held would have to come later
  now_free : e.letter ≡ Release → HolderIs (L ++ e ∷ []) e.number None
  now_free q = λ u h.
      let late = h.since e (Memᴰ.append_right L (Memᴰ.head refl)) q refl in
      ⊎_elim (λ k. let z = last h.by k in omega arith) (λ s. let z = letters_apart e q (sym (ap (λ (v : Event). v.letter) s) ∙ h.letter) in omega arith) (before_or_now L e h.by h.«in»)

module _ (c : Counts) (ks : List ObjectKind) (L : List Event) (e : Event) (hs : List (Option ℕ)) (long : length hs ≡ 512) (h : Held (kind_at ks) L hs) (last : (f : Event) → f ∈ L → f.place < e.place) where
  quiet : (l : Letter) → e.letter ≡ l → (code_letter l ≡ 97 → ⊥) → (code_letter l ≡ 108 → ⊥) → Held (kind_at ks) (L ++ e ∷ []) hs
  quiet l q a r m k lt = holder_still L e m (λ x. a (letters_apart e q x.0)) (λ x. r (letters_apart e q x.0)) (holder_at hs m) (h m k lt)

  acquires : e.letter ≡ Acquire → e.number < 512 → (kind_at ks e.number ≡ Mutex → (u : ℕ) → Holds L e.number u → ⊥) → Held (kind_at ks) (L ++ e ∷ []) (set hs e.number (Some e.thread))
  acquires q ln free m k lt =
      after_set hs e.number m (Some e.thread) None (HolderIs (L ++ e ∷ []) m) (omega arith)
      (λ s. subst (λ n. HolderIs (L ++ e ∷ []) n (Some e.thread)) (sym s) (now_held L e last q (free (ap (kind_at ks) (sym s) ∙ k))))
      (λ s. holder_still L e m (λ x. s (sym x.1)) (λ x. let z = letters_apart e q x.0 in omega arith) (holder_at hs m) (h m k lt))

  releases : e.letter ≡ Release → e.number < 512 → Held (kind_at ks) (L ++ e ∷ []) (set hs e.number None)
  releases q ln m k lt =
      after_set hs e.number m None None (HolderIs (L ++ e ∷ []) m) (omega arith)
      (λ s. subst (λ n. HolderIs (L ++ e ∷ []) n None) (sym s) (now_free L e last q))
      (λ s. holder_still L e m (λ x. let z = letters_apart e q x.0 in omega arith) (λ x. s (sym x.1)) (holder_at hs m) (h m k lt))

  -- the holders after an event that keeps the rule are right again
  held_by : (l : Letter) → e.letter ≡ l → e.number < limit c l → (kind_at ks e.number ≡ Mutex → Exclusive L l e.thread e.number) → Held (kind_at ks) (L ++ e ∷ []) (locked_by l e.thread e.number hs)
  held_by Read q ln x = quiet Read q (λ z. omega arith) (λ z. omega arith)
  held_by Write q ln x = quiet Write q (λ z. omega arith) (λ z. omega arith)
  held_by Acquire q ln x = acquires q (omega (arith, c.limits)) x
  held_by Release q ln x = releases q (omega (arith, c.limits))
  held_by Fork q ln x = quiet Fork q (λ z. omega arith) (λ z. omega arith)
  held_by Join q ln x = quiet Join q (λ z. omega arith) (λ z. omega arith)
  held_by Begin q ln x = quiet Begin q (λ z. omega arith) (λ z. omega arith)
  held_by End q ln x = quiet End q (λ z. omega arith) (λ z. omega arith)
  held_by Strong q ln x = quiet Strong q (λ z. omega arith) (λ z. omega arith)
  held_by Weak q ln x = quiet Weak q (λ z. omega arith) (λ z. omega arith)
  held_by Downgrade q ln x = quiet Downgrade q (λ z. omega arith) (λ z. omega arith)
  held_by Stop q ln x = quiet Stop q (λ z. omega arith) (λ z. omega arith)

  pub held_more : e.number < limit c e.letter → (kind_at ks e.number ≡ Mutex → Exclusive L e.letter e.thread e.number) → Held (kind_at ks) (L ++ e ∷ []) (locked hs e)
  held_more ln x = held_by e.letter refl ln x

locked_by_length : (l : Letter) (t n : ℕ) (hs : List (Option ℕ)) → length (locked_by l t n hs) ≡ length hs
locked_by_length Read t n hs = refl
locked_by_length Write t n hs = refl
locked_by_length Acquire t n hs = length-set hs n (Some t)
locked_by_length Release t n hs = length-set hs n None
locked_by_length Fork t n hs = refl
locked_by_length Join t n hs = refl
locked_by_length Begin t n hs = refl
locked_by_length End t n hs = refl
locked_by_length Strong t n hs = refl
locked_by_length Weak t n hs = refl
locked_by_length Downgrade t n hs = refl
locked_by_length Stop t n hs = refl

pub locked_long : (hs : List (Option ℕ)) (e : Event) → length (locked hs e) ≡ length hs
locked_long hs e = locked_by_length e.letter e.thread e.number hs

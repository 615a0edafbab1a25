-- More events find more.
use Rattle.std.proofs.Common.{◌≡◌, ◌<◌, ◌≤◌, ◌⊎◌, List, [], ◌∷◌, ◌++◌, sym, refl, ◌∙◌, subst, inl, inr, ⊎_elim, arith}
use mathlib.Core.List.Memᴰ
use native.Mathlib.Decide.{dec_lt, ℕ_discrete}
use Rattle.event.specs.declared.record.Event.{Event}
use Rattle.event.specs.Order.{◌∈◌, Within, by_thread, Chain, start, more, Access, reads, writes, Conflict, Race}
use Rattle.event.specs.Thins.{Rising, Thins}
use Rattle.order.specs.Finds.{Alike, Found}
use Rattle.order.specs.Runs.{Finds}
use Rattle.order.proofs.Chaining.{chain_join}
use Rattle.order.proofs.Thinning.{thinned, thins_within}
use Rattle.order.proofs.Front.{same_place, stays}
use Rattle.order.proofs.Letters.{letter_discrete}

-- m is the latest among k and the events of P of which Q holds
pub record Latest (Q : Event → Type 0) (P : List Event) (k m : Event) : Type 0 where
  pub held : Q m
  pub from : (m ≡ k) ⊎ ((m ∈ P) × (k.place < m.place))
  pub last : (x : Event) → x ∈ P → Q x → x.place ≤ m.place

module _ (Q : Event → Type 0) (decide : (x : Event) → Dec (Q x)) where
  pub at_least : {P : List Event} {k m : Event} → Latest Q P k m → k.place ≤ m.place
  at_least l = ⊎_elim (λ s. omega (arith, same_place s)) (λ h. omega (arith, h.1)) l.from

  pass : {P : List Event} {k m : Event} (x : Event) → (Q x → x.place ≤ k.place) → Latest Q P k m → Latest Q (x ∷ P) k m
  pass x h l = record {
    held = l.held;
    from = ⊎_elim inl (λ b. inr (Memᴰ.tail b.0, b.1)) l.from;
    last = λ y n q. ⊎_elim (λ s. let low = at_least l in let here = h (subst Q s q) in omega (arith, same_place s)) (λ i. l.last y i q) (Memᴰ.cases_cons n);
  }

  take_up : {P : List Event} {k m : Event} (x : Event) → k.place < x.place → Latest Q P x m → Latest Q (x ∷ P) k m
  take_up x lt l = record {
    held = l.held;
    from = ⊎_elim (λ s. inr (Memᴰ.head s, omega (arith, same_place s))) (λ b. inr (Memᴰ.tail b.0, omega (arith, b.1))) l.from;
    last = λ y n q. ⊎_elim (λ s. let low = at_least l in omega (arith, same_place s)) (λ i. l.last y i q) (Memᴰ.cases_cons n);
  }

  pub latest : (P : List Event) (k : Event) → Q k → (m : Event) × Latest Q P k m
  latest [] k q = (k, record { held = q; from = inl refl; last = λ x n r. absurd (Memᴰ.not-nil n) })
  latest (x ∷ P) k q = choose (decide x) (dec_lt k.place x.place) (latest P k q) (λ r. latest P x r)
    where
      choose : Dec (Q x) → Dec (k.place < x.place) → ((m : Event) × Latest Q P k m) → (Q x → (m : Event) × Latest Q P x m) → (m : Event) × Latest Q (x ∷ P) k m
      choose (yes r) (yes lt) u v = ((v r).0, take_up x lt (v r).1)
      choose (yes r) (no h) u v = (u.0, pass x (λ s. omega (arith, h)) u.1)
      choose (no h) d u v = (u.0, pass x (λ s. absurd (h s)) u.1)

pub both : {A B : Type 0} → Dec A → Dec B → Dec (A × B)
both (yes a) (yes b) = yes (a, b)
both (yes a) (no h) = no (λ p. h p.1)
both (no h) d = no (λ p. h p.0)

pub alike_decided : (i k : Event) → Dec (Alike i k)
alike_decided i k = go (ℕ_discrete i.thread k.thread) (ℕ_discrete i.number k.number) (letter_discrete i.letter k.letter)
  where
    go : Dec (i.thread ≡ k.thread) → Dec (i.number ≡ k.number) → Dec (i.letter ≡ k.letter) → Dec (Alike i k)
    go (yes a) (yes b) (yes c) = yes (record { thread = a; number = b; letter = c })
    go (yes a) (yes b) (no h) = no (λ p. h p.letter)
    go (yes a) (no h) d = no (λ p. h p.number)
    go (no h) c d = no (λ p. h p.thread)

access_alike : {i k : Event} → Alike i k → Access i → Access k
access_alike s (reads r) = reads (sym s.letter ∙ r)
access_alike s (writes r) = writes (sym s.letter ∙ r)

conflict_alike : {i k j : Event} → Alike i k → Conflict i j → Conflict k j
conflict_alike s c = record {
  first = access_alike s c.first;
  second = c.second;
  variable = sym s.number ∙ c.variable;
  apart = λ p. c.apart (s.thread ∙ p);
  written = λ p q. c.written (s.letter ∙ p) q;
}

alike_self : (i : Event) → Alike i i
alike_self i = record { thread = refl; number = refl; letter = refl }

alike_join : {i k m : Event} → Alike i k → Alike k m → Alike i m
alike_join s t = record { thread = s.thread ∙ t.thread; number = s.number ∙ t.number; letter = s.letter ∙ t.letter }

-- Of the told events like i before j, the latest one, k, is found: a chain from k to j would give one from i, through k.
pub told_race_found : (W T : List Event) → Within T W → (i j : Event) → i ∈ T → j ∈ T → Race W i j → (k : Event) × Alike i k × Finds W T k j
told_race_found W T w i j i_in j_in race = (
  k,
  l.held.0,
  record {
    earlier_told = k_in;
    later_told = j_in;
    race = record {
      first_in = w k k_in;
      second_in = race.second_in;
      order = l.held.1;
      conflict = conflict_alike l.held.0 race.conflict;
      unordered = λ c. race.unordered (chain_join lead c);
    };
    latest = λ x n a lo hi. let top = l.last x n (alike_join l.held.0 a, hi) in omega arith;
  },
)
  where
    Before : Event → Type 0
    Before x = Alike i x × (x.place < j.place)

    found : (m : Event) × Latest Before T i m
    found = latest Before (λ x. both (alike_decided i x) (dec_lt x.place j.place)) T i (alike_self i, race.order)

    k : Event
    k = found.0

    l : Latest Before T i k
    l = found.1

    k_in : k ∈ T
    k_in = ⊎_elim (λ e. Memᴰ.cast e i_in) (λ h. h.0) l.from

    lead : Chain W i k
    lead = ⊎_elim (λ e. subst (Chain W i) (sym e) (start race.first_in)) (λ h. more (start race.first_in) (w k h.0) h.1 (by_thread l.held.0.thread)) l.from

pub each_race_found : (T M : List Event) → Rising (T ++ M) → (i j : Event) → j ∈ T → Race (T ++ M) i j → (k : Event) × Alike i k × Finds (T ++ M) T k j
each_race_found T M r i j j_in race =
    told_race_found (T ++ M) T (λ e m. Memᴰ.append_left M m) i j (stays T M r race.first_in j_in race.order) j_in race

pub runs_find_more : (W P Q : List Event) → Thins W P → Thins W Q → Within P Q → (i j : Event) → Finds W P i j → (k : Event) × Alike i k × Finds W Q k j
runs_find_more W P Q s t w i j f = told_race_found W Q (thins_within t) i j (w i f.earlier_told) (w j f.later_told) f.race

pub ordered_never : (W T : List Event) (i j : Event) → Chain W i j → Finds W T i j → ⊥
ordered_never W T i j c f = f.race.unordered c

-- what is found among the events of Q themselves, by the races of W
found_in : {W Q : List Event} {k j : Event} → Thins W Q → Finds W Q k j → Found Q k j
found_in {W} {Q} {k} {j} t f = record { race = (thinned W Q t k j f.earlier_told f.later_told).races.0 f.race; latest = f.latest }

finds_in : {W P : List Event} {i j : Event} → Thins W P → Found P i j → Finds W P i j
finds_in {W} {P} {i} {j} t f =
    record {
      earlier_told = f.race.first_in;
      later_told = f.race.second_in;
      race = (thinned W P t i j f.race.first_in f.race.second_in).races.1 f.race;
      latest = f.latest;
    }

pub found_more : (W P Q : List Event) → Thins W P → Thins W Q → Within P Q → (i j : Event) → Found P i j → (k : Event) × Alike i k × Found Q k j
found_more W P Q s t w i j f = let more = runs_find_more W P Q s t w i j (finds_in s f) in (more.0, more.1, found_in t more.2)

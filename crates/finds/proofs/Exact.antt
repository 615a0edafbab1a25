-- The list of findings has exactly the races.
use Rattle.std.proofs.Common.{◌≡◌, ℕ, ◌<◌, ◌≤◌, Bool, true, ◌⊎◌, ◌↔◌, List, [], ◌∷◌, ◌++◌, Some, Option, sym, refl, ap, ◌∙◌, subst, inl, inr, ⊎_elim, arith}
use mathlib.Core.List.Memᴰ
use mathlib.Core.List.{Memᴰ}
use native.Mathlib.Decide.{dec_lt}
use Rattle.std.proofs.lemmas.List.{append_assoc}
use Rattle.event.specs.declared.counts.Counts.{Counts}
use Rattle.event.specs.declared.letter.Letter.{Letter}
use Rattle.event.specs.declared.letter.Letter.TheVariants.{Read, Write}
use Rattle.event.specs.declared.record.Event.{Event}
use Rattle.event.specs.Entries.{LatestOf}
use Rattle.event.specs.Order.{◌∈◌, Within, Chain, Access, reads, writes}
use Rattle.event.specs.Thins.{Rising, Placed, Sound, accesses, access, Thins}
use Rattle.event.proofs.Members.{every_in}
use Rattle.event.proofs.Thinning.{access_true}
use Rattle.order.specs.Finds.{Alike}
use Rattle.order.specs.Runs.{Two, Finds, Lists}
use Rattle.order.proofs.Front.{same_place, before_each, place_once, chain_front_iff, rising_front}
use Rattle.order.proofs.Newest.{newest_in, old_or_new, older}
use Rattle.order.proofs.Telling.{entry_test}
use Rattle.order.proofs.Thinning.{thinned, thins_within}
use Rattle.finds.specs.Latest.{is_write_letter, is_read, touches, latest}
use Rattle.finds.specs.Found.{found_at, found_after, found_all}
use Rattle.finds.proofs.Latests.{write_is, read_is, Touches, touches_true, true_touches, Last, none, some, latest_last}
use Rattle.finds.proofs.Orders.{order_after}
use Rattle.finds.proofs.Rivals.{Unknown, Rival, known_of, at_has}

-- j comes right after `past` in the source's list, of which W has all events and perhaps more accesses
module _ (W past rest : List Event) (j : Event) (r : Rising ((past ++ j ∷ []) ++ rest)) (t : Thins W ((past ++ j ∷ []) ++ rest)) where
  abbrev upto : List Event
  upto = past ++ j ∷ []

  rising_upto : Rising (past ++ j ∷ [])
  rising_upto = rising_front upto rest r

  j_last : LatestOf (past ++ j ∷ []) j.thread j
  j_last = record {
    «in» = newest_in past j;
    of = refl;
    last = λ f m s. ⊎_elim (λ o. omega (arith, older past j rising_upto o)) (λ e. omega (arith, same_place e)) (old_or_new past m);
  }

  in_source : {e : Event} → e ∈ past ++ j ∷ [] → e ∈ ((past ++ j ∷ []) ++ rest)
  in_source m = Memᴰ.append_left rest m

  -- a chain of the whole list leads from an event before j to j exactly if the entry of j's thread is above its place
  pub chain_known : (i : Event) → i ∈ past → Chain W i j ↔ (i.place < known_of past j i.thread)
  chain_known i m =
      let here = Memᴰ.append_left (j ∷ []) m in
      let thin = (thinned W _ t i j (in_source here) (in_source (newest_in past j))).chains in
      let front = chain_front_iff upto rest r (newest_in past j) in
      let test = entry_test upto rising_upto j.thread j j_last i here in
      (λ c. test.0 (front.0 (thin.0 c)), λ lt. thin.1 (front.1 (test.1 lt)))

  -- the events of T up to j are those of `past` and j
  module _ (T : List Event) (told : Within (past ++ j ∷ []) T) (front : (k : Event) → k ∈ T → k.place < j.place → k ∈ past) where
    -- what was looked up is found
    finds : (kind : Letter → Bool) (u : ℕ) (i : Event) → ((l : Letter) → kind l ≡ true → (l ≡ Read) ⊎ (l ≡ Write)) →
        Access j → (u ≡ j.thread → ⊥) → ((l : Letter) → kind l ≡ true → l ≡ Read → j.letter ≡ Read → ⊥) →
        latest kind u j.number past ≡ Some i → known_of past j u ≤ i.place → Finds W T i j
    finds kind u i sort acc apart written is unknown = go (latest_last kind u j.number past (rising_front past (j ∷ []) rising_upto)) is
      where
        go : {o : Option Event} → Last kind u j.number past o → o ≡ Some i → Finds W T i j
        go (none h) s = absurd (let z : ◌≡◌ {A = ℕ} 0 1 = cc in omega arith)
        go (some k m q h) s =
            let same : k ≡ i = cc in
            let m' : i ∈ past = subst (λ e. e ∈ past) same m in
            let x : Touches kind u j.number i = touches_true kind u j.number i (subst (λ e. touches kind u j.number e ≡ true) same q) in
            record {
              earlier_told = told i (Memᴰ.append_left (j ∷ []) m');
              later_told = told j (newest_in past j);
              race = record {
                first_in = thins_within t i (in_source (Memᴰ.append_left (j ∷ []) m'));
                second_in = thins_within t j (in_source (newest_in past j));
                order = older past j rising_upto m';
                conflict = record {
                  first = ⊎_elim reads writes (sort i.letter x.letter);
                  second = acc;
                  variable = x.number;
                  apart = λ p. apart (sym x.thread ∙ p);
                  written = written i.letter x.letter;
                };
                unordered = λ c. let lt = (chain_known i m').0 c in omega (arith, unknown, ap (known_of past j) x.thread);
              };
              latest = λ e n a lo hi.
                  let y = true_touches kind u j.number e (record { letter = subst (λ l. kind l ≡ true) a.letter x.letter; thread = sym a.thread ∙ x.thread; number = sym a.number ∙ x.number }) in
                  let top = h e (front e n hi) y in
                  omega (arith, top, same_place same);
            }

    -- what is found was looked up
    found_latest : (kind : Letter → Bool) (i : Event) → kind i.letter ≡ true → ((l : Letter) → kind l ≡ true → i.letter ≡ l) → Finds W T i j → latest kind i.thread j.number past ≡ Some i
    found_latest kind i is only f = go (latest_last kind i.thread j.number past (rising_front past (j ∷ []) rising_upto))
      where
        i_in : i ∈ past
        i_in = front i f.earlier_told f.race.order

        i_touches : touches kind i.thread j.number i ≡ true
        i_touches = true_touches kind i.thread j.number i (record { letter = is; thread = refl; number = f.race.conflict.variable })

        go : {o : Option Event} → Last kind i.thread j.number past o → o ≡ Some i
        go (none h) = absurd (h i i_in i_touches)
        go (some k m q h) =
            let x = touches_true kind i.thread j.number k q in
            let low = h i i_in i_touches in
            let alike : Alike i k = record { thread = sym x.thread; number = f.race.conflict.variable ∙ sym x.number; letter = only k.letter x.letter } in
            let top : k.place ≤ i.place = elim (dec_lt i.place k.place) [ yes lt ↦ absurd (f.latest k (told k (Memᴰ.append_left (j ∷ []) m)) alike lt (older past j rising_upto m)) | no ge ↦ omega arith ] in
            ap Some (place_once past (rising_front past (j ∷ []) rising_upto) m i_in (omega arith))

    not_known : (i : Event) → Finds W T i j → known_of past j i.thread ≤ i.place
    not_known i f =
        elim (dec_lt i.place (known_of past j i.thread)) [
          | yes lt ↦ absurd (f.race.unordered ((chain_known i (front i f.earlier_told f.race.order)).1 lt))
          | no ge ↦ omega arith
        ]

    rival_of : (i : Event) → Finds W T i j → Rival (known_of past j i.thread) past j i.thread (i, j)
    rival_of i f = record { apart = f.race.conflict.apart; kind = go f.race.conflict.first f.race.conflict.second }
      where
        unknown : (kind : Letter → Bool) → kind i.letter ≡ true → ((l : Letter) → kind l ≡ true → i.letter ≡ l) → Unknown (known_of past j i.thread) j (latest kind i.thread j.number past) (i, j)
        unknown kind is only = record { access = found_latest kind i is only f; later = refl; unknown = not_known i f }

        go : Access i → Access j → Unknown (known_of past j i.thread) j (latest is_write_letter i.thread j.number past) (i, j) ⊎ ((is_write_letter j.letter ≡ true) × Unknown (known_of past j i.thread) j (latest is_read i.thread j.number past) (i, j))
        go (writes s) b = inl (unknown is_write_letter (ap is_write_letter s) (λ l h. s ∙ sym (write_is l h)))
        go (reads s) (writes q) = inr (ap is_write_letter q, unknown is_read (ap is_read s) (λ l h. s ∙ sym (read_is l h)))
        go (reads s) (reads q) = absurd (f.race.conflict.written s q)

    access_of : Access j → access j ≡ true
    access_of (reads s) = ap accesses s
    access_of (writes s) = ap accesses s

    -- what is found at j are the findings of which j is the later access
    pub at_exact : (n : ℕ) → ((i : Event) → i ∈ past → i.thread < n) → (p : Two) → Memᴰ p (found_at n past j) ↔ ((p.1 ≡ j) × Finds W T p.0 p.1)
    at_exact n low p = (out, into)
      where
        write_sort : (l : Letter) → is_write_letter l ≡ true → (l ≡ Read) ⊎ (l ≡ Write)
        write_sort l h = inr (write_is l h)

        read_sort : (l : Letter) → is_read l ≡ true → (l ≡ Read) ⊎ (l ≡ Write)
        read_sort l h = inl (read_is l h)

        letters : Read ≡ Write → ⊥
        letters e = let z : ◌≡◌ {A = ℕ} 0 1 = cc in omega arith

        out : Memᴰ p (found_at n past j) → (p.1 ≡ j) × Finds W T p.0 p.1
        out m =
            let h = (at_has n past j p).0 m in
            let acc = access_true j h.0 in
            let b = h.1.rival in
            ⊎_elim
            (λ x. (x.later, subst (Finds W T p.0) (sym x.later) (finds is_write_letter h.1.thread p.0 write_sort acc b.apart (λ l q s e. letters (sym s ∙ write_is l q)) x.access x.unknown)))
            (λ x. (x.1.later, subst (Finds W T p.0) (sym x.1.later) (finds is_read h.1.thread p.0 read_sort acc b.apart (λ l q s e. letters (sym e ∙ write_is j.letter x.0)) x.1.access x.1.unknown)))
            b.kind

        into : (p.1 ≡ j) × Finds W T p.0 p.1 → Memᴰ p (found_at n past j)
        into h =
            let f : Finds W T p.0 j = subst (Finds W T p.0) h.0 h.1 in
            let i_in = front p.0 f.earlier_told f.race.order in
            let whole : (p.0, j) ≡ p = λ k. (p.0, sym h.0 k) in
            subst (λ (q : Two). Memᴰ q (found_at n past j)) whole
            ((at_has n past j (p.0, j)).1 (access_of f.race.conflict.second, record { thread = p.0.thread; below = low p.0 i_in; rival = rival_of p.0 f }))

-- T was told and M was not, of a list of which W has all events and perhaps more accesses
module _ (n : ℕ) (W T M : List Event) (r : Rising (T ++ M)) (t : Thins W (T ++ M)) (low : (i : Event) → i ∈ T → i.thread < n) where
  -- what is found from some event on
  after_exact : (past S : List Event) → T ≡ past ++ S → (p : Two) → Memᴰ p (found_after n past S) ↔ ((p.1 ∈ S) × Finds W T p.0 p.1)
  after_exact past [] e p = (λ m. absurd (Memᴰ.not-nil m), λ h. absurd (Memᴰ.not-nil h.0))
  after_exact past (j ∷ S) e p = (
    λ m.
        ⊎_elim
        (λ a. let h = here.0 a in (Memᴰ.head h.0, h.1))
        (λ b. let h = (after_exact (past ++ j ∷ []) S on p).0 b in (Memᴰ.tail h.0, h.1))
        (Memᴰ.append_cases (found_at n past j) m),
    λ h.
        ⊎_elim
        (λ s. Memᴰ.append_left _ (here.1 (s, h.1)))
        (λ k. Memᴰ.append_right (found_at n past j) ((after_exact (past ++ j ∷ []) S on p).1 (k, h.1)))
        (Memᴰ.cases_cons h.0),
  )
    where
      on : T ≡ (past ++ j ∷ []) ++ S
      on = e ∙ sym (append_assoc past (j ∷ []) S)

      whole : T ++ M ≡ (past ++ j ∷ []) ++ (S ++ M)
      whole = ap (λ l. l ++ M) on ∙ append_assoc (past ++ j ∷ []) S M

      rise : Rising ((past ++ j ∷ []) ++ (S ++ M))
      rise = subst Rising whole r

      rise_told : Rising ((past ++ j ∷ []) ++ S)
      rise_told = subst Rising on (rising_front T M r)

      told : Within (past ++ j ∷ []) T
      told k m = subst (λ l. k ∈ l) (sym on) (Memᴰ.append_left S m)

      front : (k : Event) → k ∈ T → k.place < j.place → k ∈ past
      front k m lt =
          ⊎_elim
          (λ a. ⊎_elim (λ o. o) (λ s. absurd (omega (arith, same_place s))) (old_or_new past a))
          (λ b. absurd (let h = before_each (past ++ j ∷ []) S rise_told (newest_in past j) b in omega arith))
          (Memᴰ.append_cases (past ++ j ∷ []) (subst (λ l. k ∈ l) on m))

      here : Memᴰ p (found_at n past j) ↔ ((p.1 ≡ j) × Finds W T p.0 p.1)
      here = at_exact W past (S ++ M) j rise (subst (Thins W) whole t) T told front n (λ i m. low i (told i (Memᴰ.append_left (j ∷ []) m))) p

  pub all_lists : Lists W T (found_all n T)
  all_lists = record {
    exact = λ i j. (λ m. ((after_exact [] T refl (i, j)).0 m).1, λ f. (after_exact [] T refl (i, j)).1 (f.later_told, f));
    ordered = order_after n [] T (rising_front T M r);
  }

pub findings_exact : (c : Counts) (W T M : List Event) → Sound c (T ++ M) → Thins W (T ++ M) → Lists W T (found_all c.threads T)
findings_exact c W T M s t = all_lists c.threads W T M s.rising t (λ i m. (every_in (Placed c) (T ++ M) s.placed (Memᴰ.append_left M m)).thread)

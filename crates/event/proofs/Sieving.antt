-- Lists that are sieved by a test.
use Rattle.std.proofs.Common.{◌≡◌, Bool, true, false, cond, List, [], ◌∷◌, ◌++◌, sym, refl, ap, ◌∙◌}
use Rattle.std.specs.List.{AllByRecursion}
use Rattle.std.proofs.lemmas.List.{append_assoc, append-nil}
use Rattle.std.proofs.lemmas.Bool.{false≢true}
use Rattle.event.specs.declared.counts.Counts.{Counts}
use Rattle.event.specs.declared.record.Event.{Event}
use Rattle.event.specs.Order.{Access}
use Rattle.event.specs.Sieves.{sieved}
use Rattle.event.specs.Thins.{Sound, access, Thins, none, keep, drop}
use Rattle.event.proofs.Thinning.{access_true, thins_sound}

-- what is not let through by a test that only accesses can fail is an access
pub stopped : (e : Event) (b : Bool) → cond (access e) b true ≡ false → Access e
stopped e b h = access_true e (go (access e) h)
  where
    go : (a : Bool) → cond a b true ≡ false → a ≡ true
    go true p = refl
    go false p = absurd (false≢true (sym p))

-- if only accesses fail the test, sieving thins
pub sieved_thins : (test : List Event → Event → Bool) → ((past : List Event) (e : Event) → test past e ≡ false → Access e) → (past L : List Event) → Thins L (sieved test past L)
sieved_thins test h past [] = none
sieved_thins test h past (e ∷ L) = go (test past e) refl (sieved_thins test h (past ++ e ∷ []) L)
  where
    go : {P : List Event} (b : Bool) → test past e ≡ b → Thins L P → Thins (e ∷ L) (cond b (e ∷ P) P)
    go true p t = keep t
    go false p t = drop (h past e p) t

pub sieved_sound : (c : Counts) (test : List Event → Event → Bool) → ((past : List Event) (e : Event) → test past e ≡ false → Access e) → (past L : List Event) → Sound c L → Sound c (sieved test past L)
sieved_sound c test h past L s = thins_sound c (sieved_thins test h past L) s

pub sieved_append : (test : List Event → Event → Bool) (past L M : List Event) → sieved test past (L ++ M) ≡ sieved test past L ++ sieved test (past ++ L) M
sieved_append test past [] M = ap (λ l. sieved test l M) (sym (append-nil past))
sieved_append test past (e ∷ L) M =
    go _ _ (test past e)
    (sieved_append test (past ++ e ∷ []) L M ∙ ap (λ l. sieved test (past ++ e ∷ []) L ++ sieved test l M) (append_assoc past (e ∷ []) L))
  where
    go : {N : List Event} (P Q : List Event) (b : Bool) → N ≡ P ++ Q → cond b (e ∷ N) N ≡ cond b (e ∷ P) P ++ Q
    go P Q true h = ap (λ l. e ∷ l) h
    go P Q false h = h

-- two tests that agree on the events of the list, each after its own past, let the same through
pub sieved_alike : (P : Event → Type 0) (t u : List Event → Event → Bool) (past past' L : List Event) → ((M : List Event) (e : Event) → P e → t (past ++ M) e ≡ u (past' ++ M) e) → AllByRecursion P L → sieved t past L ≡ sieved u past' L
sieved_alike P t u past past' [] h p = refl
sieved_alike P t u past past' (e ∷ L) h p =
    let first = ap (λ l. t l e) (sym (append-nil past)) ∙ h [] e p.0 ∙ ap (λ l. u l e) (append-nil past') in
    let more = sieved_alike P t u (past ++ e ∷ []) (past' ++ e ∷ []) L (λ M f q. ap (λ l. t l f) (append_assoc past (e ∷ []) M) ∙ h (e ∷ M) f q ∙ ap (λ l. u l f) (sym (append_assoc past' (e ∷ []) M))) p.1 in
    λ i. cond (first i) (e ∷ more i) (more i)

-- the same, of tests that agree on every event
pub sieved_like : (t u : List Event → Event → Bool) (past past' L : List Event) → ((M : List Event) (e : Event) → t (past ++ M) e ≡ u (past' ++ M) e) → sieved t past L ≡ sieved u past' L
sieved_like t u past past' L h = sieved_alike (λ _. Unit {0}) t u past past' L (λ M e _. h M e) (every L)
  where
    every : (N : List Event) → AllByRecursion (λ _. Unit {0}) N
    every [] = tt
    every (e ∷ N) = (tt, every N)

-- The first event is let through or not, and what follows is sieved by a test that agrees with the old one after it.
pub sieved_turn : {whole left : List Event} (t u : List Event → Event → Bool) (e : Event) (rest : List Event) → ((M : List Event) (f : Event) → t (e ∷ M) f ≡ u M f) → sieved t [] left ≡ whole → left ≡ e ∷ rest → (b : Bool) → b ≡ t [] e → whole ≡ cond b (e ∷ sieved u [] rest) (sieved u [] rest)
sieved_turn t u e rest h so_far came b lets =
    let same = sieved_like t u (e ∷ []) [] rest h in
    sym so_far ∙ ap (sieved t []) came ∙ (λ i. cond (sym lets i) (e ∷ same i) (same i))

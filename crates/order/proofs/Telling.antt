-- A thread's entries tell which events lead to it.
use Rattle.std.proofs.Common.{◌≡◌, ℕ, ◌<◌, ◌≤◌, ◌↔◌, List, [], ◌∷◌, ◌++◌, sym, refl, subst, arith}
use mathlib.Core.List.Memᴰ
use native.Mathlib.Decide.{dec_lt}
use Rattle.event.specs.declared.record.Event.{Event}
use Rattle.event.specs.Order.{◌∈◌, by_thread, Chain, start, more, Access}
use Rattle.event.specs.Thins.{Rising}
use Rattle.event.specs.Entries.{Reaches}
use Rattle.order.specs.Marks.{entry}
use Rattle.event.specs.Entries.{LatestOf, IsEntry, nothing, highest}
use Rattle.order.proofs.Behind.{reaches_latest}
use Rattle.order.proofs.Chaining.{chain_first, chain_join, to_access}
use Rattle.order.proofs.Front.{place_once, rising_front}
use Rattle.order.proofs.Newest.{Comes, itself, by_step, not_old, comes, step_to_new}
use Rattle.order.proofs.Entries.{entry_upper, entry_right}

module _ (L : List Event) (r : Rising L) (t : ℕ) (e : Event) (i : e ∈ L) where
  -- e leads to m, which is not before it and of its thread
  lead : (m : Event) → m ∈ L → e.thread ≡ m.thread → e.place ≤ m.place → Dec (e.place < m.place) → Chain L e m
  lead m j s le (yes lt) = more (start i) j lt (by_thread s)
  lead m j s le (no n) = subst (Chain L e) (place_once L r i j (omega arith)) (start i)

  told : (n : ℕ) → IsEntry L t e.thread n → e.place < n → Reaches L e t
  told n (nothing z none) lt = absurd (omega arith)
  told n (highest m s c p top) lt =
      record { to = c.to; of = c.of; chain = chain_join (lead m (chain_first c.chain) (sym s) (omega arith) (dec_lt e.place m.place)) c.chain }

  pub reaches_told : Reaches L e t ↔ (e.place < entry L t e.thread)
  reaches_told = (λ c. entry_upper L r t e.thread e refl c, told (entry L t e.thread) (entry_right L r t e.thread))

pub entry_test : (L : List Event) → Rising L → (t : ℕ) (l : Event) → LatestOf L t l → (i : Event) → i ∈ L → Chain L i l ↔ (i.place < entry L t i.thread)
entry_test L r t l h i m = (
  λ c. (reaches_told L r t i m).0 ((reaches_latest L r t l h i).1 c),
  λ lt. (reaches_latest L r t l h i).0 ((reaches_told L r t i m).1 lt),
)

pub clock_test : (L : List Event) (j : Event) → Rising (L ++ j ∷ []) → Access j → (i : Event) → i ∈ L → Chain (L ++ j ∷ []) i j ↔ (i.place < entry L j.thread i.thread)
clock_test L j r a i m = (
  λ c. (reaches_told L (rising_front L (j ∷ []) r) j.thread i m).0 (before (comes L j r refl c)),
  λ lt. let c = (reaches_told L (rising_front L (j ∷ []) r) j.thread i m).1 lt in step_to_new L j r c.chain (by_thread c.of),
)
  where
    before : Comes L j i → Reaches L i j.thread
    before (itself s) = absurd (not_old L j r (Memᴰ.cast (sym s) m))
    before (by_step {f} c k) = record { to = f; of = to_access a k; chain = c }

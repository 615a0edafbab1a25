-- A reader that applies the rules event by event accepts exactly the lists that keep them.
use Rattle.std.proofs.Common.{◌≡◌, ℕ, zero, suc, ◌+◌, ◌<◌, true, ◌↔◌, List, [], ◌∷◌, ◌++◌, length, None, sym, refl, ap, ◌∙◌, subst, inl, ⊎_elim, append_assoc, append-nil, arith, length-append}
use mathlib.Core.List.Memᴰ
use Rattle.std.specs.List.{AllByRecursion}
use Rattle.event.specs.declared.record.Event.{Event}
use Rattle.event.specs.declared.counts.Counts.{Counts}
use Rattle.event.specs.Order.{◌∈◌}
use Rattle.format.specs.declared.kinds.ObjectKind.{ObjectKind}
use Rattle.format.specs.declared.kinds.Stage.TheVariants.{Unborn}
use Rattle.format.specs.Rules.{Among, Forks, Begins, Ends, Life, Allowed, Keeps}
use Rattle.format.specs.Standings.{Standing, fresh, moved, lives, locks, kind_at}
use Rattle.format.specs.Encode.{GoodEvent, Numbered}
use Rattle.format.proofs.Accepting.{Accepts}
use Rattle.format.proofs.Pasts.{before_or_now}
use Rattle.format.proofs.Tables.{same_everywhere}
use Rattle.format.proofs.Lives.{StageIs, Staged, lives_iff, staged_more, lived_long}
use Rattle.format.proofs.Mutexes.{HolderIs, Held, locks_iff, held_more, locked_long}

-- after the events L, whose places are below i, all that is remembered is right
pub record Right (ks : List ObjectKind) (L : List Event) (i : ℕ) (s : Standing) : Type 0 where
  pub stages_long : length s.stages ≡ 16
  pub holders_long : length s.holders ≡ 512
  pub staged : Staged L s.stages
  pub held : Held (kind_at ks) L s.holders
  pub below : (f : Event) → f ∈ L → f.place < i

-- each of the events may come after L and those before it
abbrev Follows : (ℕ → ObjectKind) → List Event → List Event → Type 0
Follows kinds L es = (A : List Event) (e : Event) (M : List Event) → es ≡ A ++ e ∷ M → Allowed kinds (L ++ A) e

empty : {X : Type 0} (A M : List Event) (e : Event) → [] ≡ A ++ e ∷ M → X
empty A M e q = let n = ap length q in let m = length-append A (e ∷ M) in absurd (omega arith)

pub lives_test : (c : Counts) (ks : List ObjectKind) (L : List Event) (i : ℕ) (s : Standing) (e : Event) → Right ks L i s → GoodEvent c e → (lives s.stages e ≡ true) ↔ Life L e.letter e.thread e.number
lives_test c ks L i s e r g = lives_iff c L s.stages e.letter e.thread e.number r.staged g.0 g.1

pub allowed_iff : (c : Counts) (ks : List ObjectKind) (L : List Event) (i : ℕ) (s : Standing) (e : Event) → Right ks L i s → GoodEvent c e → ((lives s.stages e ≡ true) × (locks ks s.holders e ≡ true)) ↔ Allowed (kind_at ks) L e
allowed_iff c ks L i s e r g =
    let life = lives_test c ks L i s e r g in
    let mutex = locks_iff c ks L s.holders e.letter e.thread e.number r.held g.1 in
    (λ p. record { life = life.0 p.0; mutex = mutex.0 p.1 }, λ a. (life.1 a.life, mutex.1 a.mutex))

pub right_more : (c : Counts) (ks : List ObjectKind) (L : List Event) (i : ℕ) (s : Standing) (e : Event) → Right ks L i s → GoodEvent c e → e.place ≡ i → Allowed (kind_at ks) L e → Right ks (L ++ e ∷ []) (i + 1) (moved s e)
right_more c ks L i s e r g p a =
    let ok = (allowed_iff c ks L i s e r g).1 a in
    record {
      stages_long = lived_long s.stages e ∙ r.stages_long;
      holders_long = locked_long s.holders e ∙ r.holders_long;
      staged = staged_more c L e s.stages r.stages_long r.staged g.0 g.1 ok.0;
      held = held_more c ks L e s.holders r.holders_long r.held (λ f m. omega (arith, r.below f m)) g.1 a.mutex;
      below = λ f m. ⊎_elim (λ k. omega (arith, r.below f k)) (λ q. let z = ap (λ (v : Event). v.place) q in omega arith) (before_or_now L e f m);
    }

-- By induction over the events to come. The test at the first of them is the rule at it, since what is remembered is right; if it passes, what is
-- remembered after it is right again.
follows_iff : (c : Counts) (ks : List ObjectKind) (es L : List Event) (i : ℕ) (s : Standing) → Right ks L i s → AllByRecursion (GoodEvent c) es → Numbered i es → Accepts ks s es ↔ Follows (kind_at ks) L es
follows_iff c ks [] L i s r g n = (λ a A e M q. empty A M e q, λ f. tt)
follows_iff c ks (e ∷ es) L i s r g n = (
  λ a.
      let ok = (allowed_iff c ks L i s e r g.0).0 (a.0, a.1) in
      first ok ((follows_iff c ks es (L ++ e ∷ []) (i + 1) (moved s e) (right_more c ks L i s e r g.0 n.0 ok) g.1 n.1).0 a.2),
  λ f.
      let ok : Allowed (kind_at ks) L e = subst (λ l. Allowed (kind_at ks) l e) (append-nil L) (f [] e es refl) in
      let t = (allowed_iff c ks L i s e r g.0).1 ok in
      (t.0, t.1, (follows_iff c ks es (L ++ e ∷ []) (i + 1) (moved s e) (right_more c ks L i s e r g.0 n.0 ok) g.1 n.1).1 (rest f)),
)
  where
    first : Allowed (kind_at ks) L e → Follows (kind_at ks) (L ++ e ∷ []) es → Follows (kind_at ks) L (e ∷ es)
    first ok f [] x M q =
        let s : e ≡ x = cc in
        subst (λ l. Allowed (kind_at ks) l x) (sym (append-nil L)) (subst (λ y. Allowed (kind_at ks) L y) s ok)
    first ok f (y ∷ A) x M q =
        let s : e ≡ y = cc in
        let t : es ≡ A ++ x ∷ M = cc in
        subst (λ l. Allowed (kind_at ks) l x) (append_assoc L (e ∷ []) A ∙ ap (λ z. L ++ z ∷ A) s) (f A x M t)

    rest : Follows (kind_at ks) L (e ∷ es) → Follows (kind_at ks) (L ++ e ∷ []) es
    rest f A x M q = subst (λ l. Allowed (kind_at ks) l x) (sym (append_assoc L (e ∷ []) A)) (f (e ∷ A) x M (ap (λ l. e ∷ l) q))

none : (P : Event → Type 0) → Among [] P → ⊥
none P a = Memᴰ.not-nil a.1

unborn : (t : ℕ) → (t ≡ 0 → ⊥) → StageIs [] t Unborn
unborn t z = (record { other = z; never = none (Forks t) }, none (Begins t), none (Ends t))

fresh_staged : Staged [] fresh.stages
fresh_staged zero k = (inl (refl, none (Forks 0)), none (Ends 0))
fresh_staged (suc t) k = subst (StageIs [] (suc t)) (sym (same_everywhere 15 t Unborn)) (unborn (suc t) (λ z. omega arith))

pub fresh_right : (ks : List ObjectKind) → Right ks [] 0 fresh
fresh_right ks = record {
  stages_long = refl;
  holders_long = refl;
  staged = fresh_staged;
  held = λ m k lt. subst (HolderIs [] m) (sym (same_everywhere 512 m None)) (λ u h. Memᴰ.not-nil h.«in»);
  below = λ f m. absurd (Memᴰ.not-nil m);
}

pub accepts_iff : (c : Counts) (ks : List ObjectKind) (es : List Event) → AllByRecursion (GoodEvent c) es → Numbered 0 es → Accepts ks fresh es ↔ Keeps (kind_at ks) es
accepts_iff c ks es g n = follows_iff c ks es [] 0 fresh (fresh_right ks) g n

-- only the kinds of the objects count
pub keeps_kinds : (k l : ℕ → ObjectKind) (es : List Event) → ((m : ℕ) → k m ≡ l m) → Keeps k es → Keeps l es
keeps_kinds k l es h f A e M q = let a = f A e M q in record { life = a.life; mutex = λ p. a.mutex (h e.number ∙ p) }

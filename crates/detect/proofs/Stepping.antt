-- One event more: the run goes on with it, or the keeper was full.
use Rattle.std.proofs.Common.{◌≡◌, ℕ, ◌≤◌, true, List, [], ◌∷◌, ◌++◌, length, drop, Err, sym, ap, ◌∙◌, subst, subst₂, arith}
use Rattle.std.proofs.lemmas.List.{append_assoc}
use Rattle.std.proofs.lemmas.Bool.{lt-ltb, le-leb, and_from, cond-true}
use Rattle.event.specs.declared.counts.Counts.{Counts}
use Rattle.event.specs.declared.fault.CallerFault.{CallerFault}
use Rattle.event.specs.declared.fault.CallerFault.TheVariants.{Full}
use Rattle.event.specs.declared.record.Event.{Event}
use Rattle.event.specs.Ranges.{in_range}
use Rattle.event.specs.Thins.{Rising, Sound}
use Rattle.event.proofs.Sounds.{sound_front, sound_first}
use Rattle.keeper.specs.Telling.{last_place, follows, telling}
use Rattle.keeper.specs.declared.keeper.Keeper.{Ghosts as Keeping}
use Rattle.sink.specs.declared.sink.Sink.{Ghosts as Sinking}
use Rattle.event.proofs.Offering.{placed_in_range}
use Rattle.source.specs.declared.source.Source.{Ghosts as Giving}
use Rattle.detect.specs.Reports.{Ready}
use Rattle.detect.specs.Steps.{counts_of, rest_of, Going, Passes}
use Rattle.detect.specs.Table.{size, noted, Holds}
use Rattle.detect.specs.declared.run.Run.{Run}
use Rattle.detect.proofs.Offering.{refused_full}
use Rattle.detect.proofs.Rivals.{own_thread, own_variable, access_limit, placed_at}
use Rattle.detect.proofs.Tabling.{holds_push, noted_spare}

follows_rising : (T : List Event) (e : Event) (M : List Event) → Rising (T ++ e ∷ M) → e.place ≤ 999999 → follows (last_place T) e.place ≡ true
follows_rising [] e M r h = le-leb _ _ h
follows_rising (x ∷ []) e M r h = and_from _ _ (lt-ltb _ _ r.0.0) (le-leb _ _ h)
follows_rising (x ∷ y ∷ T) e M r h = follows_rising (y ∷ T) e M r.1 h

-- the next event of a sound list is refused only where the keeper is full
pub told_refused : (c : Counts) (capacity : ℕ) (T : List Event) (e : Event) (M : List Event) (f : CallerFault) → Sound c (T ++ e ∷ M) → length T ≤ capacity → Err f ≡ telling c capacity T e → (f ≡ Full capacity) × (length T ≡ capacity)
told_refused c capacity T e M f s few h =
    let p = placed_at c T e M s in
    let told =
    h
    ∙ cond-true (in_range c e) _ _ (placed_in_range c e p)
    ∙ cond-true (follows (last_place T) e.place) _ _ (follows_rising T e M s.rising p.place) in
    let r = refused_full (length T) capacity f (Full capacity) told in
    (r.1, omega (arith, r.0, few))

module _ {S K O : Type 0} {s : Giving S} {k : Keeping K} {o : Sinking O} {mid is : Run S K O} {e : Event} (was : Run S K O)
    (rest : rest_of s was ≡ e ∷ rest_of s mid) (counts : counts_of s mid ≡ counts_of s was) (keeper_counts : k.counts mid.keeper.now ≡ k.counts was.keeper.now)
    (told : (T : List Event) → k.told was.keeper.now T → k.told mid.keeper.now (T ++ e ∷ [])) (latest : mid.latest ≡ was.latest) (passes : Passes s k o mid is e) where
  whole_sound : (T : List Event) → Going s k was T → Sound (counts_of s mid) ((T ++ e ∷ []) ++ rest_of s mid)
  whole_sound T g =
      subst₂ (λ (c : Counts) L. Sound c L) (sym counts) (ap (λ M. T ++ M) rest ∙ sym (append_assoc T (e ∷ []) (rest_of s mid))) g.sound

  pub ready_next : (T : List Event) → Going s k was T → Ready s k mid T e
  ready_next T g = record {
    told = told T g.told;
    counts = keeper_counts ∙ g.counts ∙ sym counts;
    holds = subst₂ (λ c l. Holds c T l.now) (sym counts) (sym latest) g.holds;
    sound = sound_front (counts_of s mid) (T ++ e ∷ []) (rest_of s mid) (whole_sound T g);
  }

  pub going_next : (T : List Event) → Going s k was T → Going s k is (T ++ e ∷ [])
  going_next T g =
      let r = ready_next T g in
      let same : counts_of s is ≡ counts_of s mid = ap (λ x. s.counts x.now) passes.source in
      let table = holds_push (counts_of s mid) T mid.latest.now r.holds e (own_thread (counts_of s mid) T e r.sound) (own_variable (counts_of s mid) T e r.sound) in
      record {
        told = subst (λ x. k.told x.now (T ++ e ∷ [])) (sym passes.keeper) r.told;
        counts = ap (λ x. k.counts x.now) passes.keeper ∙ r.counts ∙ sym same;
        holds = subst₂ (λ c l. Holds c (T ++ e ∷ []) l) (sym same) (sym passes.latest) table;
        sound = subst (λ x. Sound (s.counts x.now) ((T ++ e ∷ []) ++ s.rest x.now)) (sym passes.source) (whole_sound T g);
      }

  pub spare_next : drop (size (counts_of s was)) is.latest.now ≡ drop (size (counts_of s was)) was.latest.now
  spare_next =
      let c = counts_of s was in
      let sound : Sound c (e ∷ rest_of s mid) = subst (λ L. Sound c L) rest (s.sound was.source.now) in
      let p = sound_first c e (rest_of s mid) sound in
      ap (drop (size c)) (passes.latest ∙ (λ i. noted (counts i) (latest i).now e))
      ∙ noted_spare c was.latest.now e p.thread (λ a. omega (arith, p.number, access_limit c e.letter a))

-- The law of a whole run, from what its steps did.
use Rattle.std.proofs.Common.{◌≡◌, ℕ, ◌+◌, ◌-◌, ◌*◌, ◌≤◌, min, List, ◌++◌, length, take, drop, sym, ap, ◌∙◌, subst, subst₂, arith}
use Rattle.std.proofs.Math.Path.{transport}
use mathlib.Core.List.{Memᴰ}
use Rattle.std.proofs.lemmas.List.{length-take, take-append-drop}
use Rattle.event.specs.declared.counts.Counts.{Counts}
use Rattle.event.specs.declared.record.Event.{Event}
use Rattle.event.specs.Order.{◌∈◌, Within, Chain, Race}
use Rattle.event.specs.Thins.{Rising, Sound, Thins}
use Rattle.event.proofs.Sounds.{sound_short}
use Rattle.finds.specs.Found.{found_all}
use Rattle.finds.proofs.Exact.{findings_exact}
use Rattle.finds.proofs.Pushes.{found_few}
use Rattle.order.specs.Finds.{Alike}
use Rattle.order.specs.Runs.{Finds, Lists, Reported}
use Rattle.order.proofs.Finding.{each_race_found, runs_find_more, ordered_never}
use Rattle.order.proofs.Thinning.{thins_self}
use Rattle.keeper.specs.declared.keeper.Keeper.{Ghosts as Keeping}
use Rattle.sink.specs.declared.sink.Sink.{Ghosts as Sinking}
use Rattle.source.specs.declared.source.Source.{Ghosts as Giving}
use Rattle.detect.specs.Offers.{most, none, OffersTo}
use Rattle.detect.specs.Pairs.{pair_of}
use Rattle.detect.specs.Steps.{counts_of, rest_of, Keeps}
use Rattle.detect.specs.Whole.{Goes, Whole}
use Rattle.detect.specs.declared.run.Run.{Run}
use Rattle.detect.specs.declared.totals.Totals.{Totals}
use Rattle.detect.proofs.Totaling.{reports}

-- the findings among the told events of a source's list
module _ (c : Counts) (P told M : List Event) (sound : Sound c P) (split : told ++ M ≡ P) where
  lists : (W : List Event) → Thins W P → Lists W told (found_all c.threads told)
  lists W t = findings_exact c W told M (subst (Sound c) (sym split) sound) (subst (Thins W) (sym split) t)

  more : (W Q : List Event) → Thins W P → Thins W Q → Within P Q → told ≡ P → (i j : Event) → Memᴰ (i, j) (found_all c.threads told) → (x : Event) × Alike i x × Finds W Q x j
  more W Q s t w all i j m = runs_find_more W P Q s t w i j (subst (λ L. Finds W L i j) all (((lists W s).exact i j).0 m))

  races : (i j : Event) → j ∈ told → Race P i j → (x : Event) × Alike i x × Memᴰ (x, j) (found_all c.threads told)
  races i j m r =
      let f = each_race_found told M (subst Rising (sym split) sound.rising) i j m (subst (λ L. Race L i j) (sym split) r) in
      (f.0, f.1, ((lists (told ++ M) (subst (Thins (told ++ M)) split (thins_self (told ++ M)))).exact f.0 j).1 f.2)

  ordered : (W : List Event) → Thins W P → (i j : Event) → Chain W i j → Memᴰ (i, j) (found_all c.threads told) → ⊥
  ordered W t i j h m = ordered_never W told i j h (((lists W t).exact i j).0 m)

module _ {S K O : Type 0} (s : Giving S) (k : Keeping K) (o : Sinking O) (budget : ℕ) (was is : Run S K O) (keeper : K) (t : Totals)
    (same_capacity : k.capacity was.keeper.now ≡ k.capacity keeper) (same_tables : (c : Counts) → k.lacks was.keeper.now c ≡ k.lacks keeper c)
    (nothing : was.totals ≡ none) (keeps : Keeps s k o was is) (goes : Goes s k o budget was is)
    (totals : t ≡ is.totals) where
  counts : Counts
  counts = counts_of s was

  split : goes.told ++ drop (min budget (k.capacity was.keeper.now)) (rest_of s was) ≡ rest_of s was
  split = ap (λ T. T ++ drop (min budget (k.capacity was.keeper.now)) (rest_of s was)) goes.first_ones ∙ take-append-drop (min budget (k.capacity was.keeper.now)) (rest_of s was)

  few : length (found_all (counts_of s was).threads goes.told) ≤ most
  few =
      let a = found_few (counts_of s was).threads goes.told (counts_of s was).limits.1 in
      let b = sound_short (counts_of s was) (rest_of s was) (s.sound was.source.now) in
      let l = ap length goes.first_ones ∙ length-take (min budget (k.capacity was.keeper.now)) (rest_of s was) in
      bound (length (found_all (counts_of s was).threads goes.told)) (length goes.told) (length (rest_of s was)) (min budget (k.capacity was.keeper.now)) a b l
    where
      bound : (f n m b : ℕ) → f ≤ 32 * n → m ≤ 1000000 → n ≡ min b m → f ≤ most
      bound f n m b p q r = omega arith

  done : Reported (λ l p. o.step l (pair_of p)) (o.capacity was.sink.now - o.taken was.sink.now) (o.log was.sink.now) (o.log is.sink.now) (found_all (counts_of s was).threads goes.told) t.found t.written t.dropped
      × (o.taken is.sink.now ≡ o.taken was.sink.now + t.written)
  done = reports o was.sink.now is.sink.now _ t (subst₂ (λ a b. OffersTo o was.sink.now a (found_all (counts_of s was).threads goes.told) is.sink.now b) nothing (sym totals) goes.offers) few

  pub whole_run : Whole s k o budget was.source.now is.source.now keeper is.keeper.now was.sink.now is.sink.now t
  whole_run = record {
    told = goes.told;
    first_ones = goes.first_ones ∙ ap (λ n. take (min budget n) (rest_of s was)) same_capacity;
    left = goes.left ∙ ap (λ n. drop (min budget (n + 1)) (rest_of s was)) same_capacity;
    keeper_told = goes.kept;
    ran = record {
      findings = found_all (counts_of s was).threads goes.told;
      exactly = lists (counts_of s was) (rest_of s was) goes.told _ (s.sound was.source.now) split;
      reported = done.0;
    };
    taken = done.1;
    more_finds_more = more (counts_of s was) (rest_of s was) goes.told _ (s.sound was.source.now) split;
    races_are_found = races (counts_of s was) (rest_of s was) goes.told _ (s.sound was.source.now) split;
    ordered_never = ordered (counts_of s was) (rest_of s was) goes.told _ (s.sound was.source.now) split;
    counts = keeps.counts;
    keeper_counts = goes.counts;
    keeper_capacity = keeps.keeper_capacity ∙ same_capacity;
    keeper_tables = λ c. keeps.keeper_tables c ∙ same_tables c;
    sink_capacity = keeps.sink_capacity;
  }

-- the same before and after
pub whole_as : {S K O : Type 0} {s : Giving S} {k : Keeping K} {o : Sinking O} {budget : ℕ} {source source' source'' source''' : S} {keeper keeper' keeper'' : K} {sink sink' sink'' sink''' : O} {t : Totals} →
    source ≡ source'' → source' ≡ source''' → keeper' ≡ keeper'' → sink ≡ sink'' → sink' ≡ sink''' →
    Whole s k o budget source source' keeper keeper' sink sink' t → Whole s k o budget source'' source''' keeper keeper'' sink'' sink''' t
whole_as {s = s} {k = k} {o = o} {budget = budget} {keeper = keeper} {t = t} a b d e f h = transport (λ i. Whole s k o budget (a i) (b i) keeper (d i) (e i) (f i) t) h

-- Steps one after another, and what a budget of them comes to.
use Rattle.std.proofs.Common.{◌≡◌, ℕ, ◌+◌, ◌<◌, ◌≤◌, min, false, List, [], ◌∷◌, ◌++◌, length, take, drop, Option, sym, refl, ap, ◌∙◌, subst, subst₂, rules, arith}
use Rattle.std.proofs.lemmas.List.{append-nil, append_assoc, length_push, take_at, drop_at, take_all, drop_all}
use Rattle.event.specs.declared.counts.Counts.{Counts}
use Rattle.event.specs.declared.record.Event.{Event}
use Rattle.finds.specs.Found.{found_at, found_all}
use Rattle.finds.proofs.Pushes.{found_push}
use Rattle.keeper.specs.declared.keeper.Keeper.{Ghosts as Keeping}
use Rattle.sink.specs.declared.sink.Sink.{Ghosts as Sinking}
use Rattle.source.specs.declared.source.Source.{Ghosts as Giving}
use Rattle.detect.specs.Offers.{OffersTo}
use Rattle.detect.specs.Reports.{Offers}
use Rattle.detect.specs.Steps.{counts_of, rest_of, Going, Keeps, TakesOne, Stops, Stepped}
use Rattle.detect.specs.Table.{size, Holds}
use Rattle.detect.specs.Whole.{ClearsFor, Goes}
use Rattle.detect.specs.declared.run.Run.{Run}
use Rattle.detect.specs.declared.run.Step.{Step}
use Rattle.detect.specs.declared.run.Step.TheVariants.{Told, Ended, Refused}
use Rattle.detect.proofs.Offering.{offered_none, offered_as, offered_more}
use Rattle.detect.proofs.Tabling.{holds_none}

module _ {S K O : Type 0} {s : Giving S} {k : Keeping K} {o : Sinking O} where
  pub keeps_none : (run : Run S K O) → Keeps s k o run run
  keeps_none run = search rules

  pub keeps_more : {was mid is : Run S K O} → Keeps s k o was mid → Keeps s k o mid is → Keeps s k o was is
  keeps_more {was} {mid} {is} a b =
      let spare = subst (λ (c : Counts). drop (size c) is.latest.now ≡ drop (size c) mid.latest.now) a.counts b.spare ∙ a.spare in
      search rules

-- n events were told, and the run goes on
pub record On {S K O : Type 0} (s : Giving S) (k : Keeping K) (o : Sinking O) (was is : Run S K O) (n : ℕ) : Type 0 where
  pub ended : is.ended ≡ false
  pub told : List Event
  pub count : length told ≡ n
  pub rest : rest_of s was ≡ told ++ rest_of s is
  pub going : Going s k is told
  pub offers : Offers o was (found_all (counts_of s was).threads told) is

-- a cleared keeper and a cleared table were told nothing
pub going_begun : {S K O : Type 0} (s : Giving S) (k : Keeping K) (run : Run S K O) (c : Counts) (keeper keeper' : K) (latest latest' : List (Option Event)) →
    counts_of s run ≡ c → run.keeper.now ≡ keeper' → run.latest.now ≡ latest' → ClearsFor k c keeper keeper' latest latest' → Going s k run []
going_begun s k run c keeper keeper' latest latest' p q r h = record {
  told = subst (λ x. k.told x []) (sym q) h.empty;
  counts = ap k.counts q ∙ h.counts ∙ sym p;
  holds = subst₂ (λ d l. Holds d [] l) (sym p) (sym (r ∙ h.cleared_table)) (holds_none c latest h.long);
  sound = s.sound run.source.now;
}

module _ {S K O : Type 0} (s : Giving S) (k : Keeping K) (o : Sinking O) where
  pub on_none : (run : Run S K O) → run.ended ≡ false → Going s k run [] → On s k o run run 0
  on_none run e g = record { ended = e; told = []; count = refl; rest = refl; going = g; offers = offered_none }

  pub on_more : (was mid is : Run S K O) (n : ℕ) (e : Event) → Keeps s k o was mid → On s k o was mid n → is.ended ≡ false → TakesOne s k o mid is e → On s k o was is (n + 1)
  on_more was mid is n e keeps on ended t =
      let T = on.told in
      record {
        ended = ended;
        told = T ++ e ∷ [];
        count = length_push T e ∙ ap (λ m. m + 1) on.count;
        rest = on.rest ∙ ap (λ L. T ++ L) t.rest ∙ sym (append_assoc T (e ∷ []) (rest_of s is));
        going = t.going T on.going;
        offers =
            offered_as (ap (λ (c : Counts). found_all (counts_of s was).threads T ++ found_at c.threads T e) keeps.counts ∙ sym (found_push (counts_of s was).threads T e))
            (offered_more on.offers keeps.sink_capacity (t.offers T on.going));
      }

  module _ (was mid : Run S K O) (n budget : ℕ) (keeps : Keeps s k o was mid) (on : On s k o was mid n) where
    few : length on.told ≤ k.capacity was.keeper.now
    few = let h = (k.fits mid.keeper.now on.told on.going.told).few in omega (arith, h, keeps.keeper_capacity)

    own_counts : k.counts mid.keeper.now ≡ counts_of s was
    own_counts = on.going.counts ∙ keeps.counts

    -- the run stopped
    module _ (is : Run S K O) (stops : Stops mid is) where
      offers_still : Offers o was (found_all (counts_of s was).threads on.told) is
      offers_still = subst₂ (λ a b. OffersTo o was.sink.now was.totals (found_all (counts_of s was).threads on.told) a.now b) (sym stops.sink) (sym stops.totals) on.offers

      told_still : k.told is.keeper.now on.told
      told_still = subst (λ x. k.told x.now on.told) (sym stops.keeper) on.going.told

      counts_still : k.counts is.keeper.now ≡ counts_of s was
      counts_still = ap (λ x. k.counts x.now) stops.keeper ∙ own_counts

    -- what was told is the first events that are left, as many as it has
    told_first : (m : ℕ) → length on.told ≡ m → on.told ≡ take m (rest_of s was)
    told_first m e = sym (ap (take m) on.rest ∙ take_at on.told (rest_of s mid) m e)

    -- the run told no more, and is left with what the budget and the keeper leave
    goes_with : (is : Run S K O) → is.keeper ≡ mid.keeper → is.sink ≡ mid.sink → is.totals ≡ mid.totals → on.told ≡ take (min budget (k.capacity was.keeper.now)) (rest_of s was) →
        rest_of s is ≡ drop (min budget (k.capacity was.keeper.now + 1)) (rest_of s was) → Goes s k o budget was is
    goes_with is keeper sink totals first left = record {
      told = on.told;
      first_ones = first;
      left = left;
      kept = subst (λ x. k.told x.now on.told) (sym keeper) on.going.told;
      counts = ap (λ x. k.counts x.now) keeper ∙ on.going.counts ∙ keeps.counts;
      offers = subst₂ (λ a b. OffersTo o was.sink.now was.totals (found_all (counts_of s was).threads on.told) a.now b) (sym sink) (sym totals) on.offers;
    }

    -- the budget is spent
    pub goes_spent : n ≡ budget → Goes s k o budget was mid
    goes_spent spent =
        let one : length on.told ≡ min budget (k.capacity was.keeper.now + 1) = omega (arith, few, on.count) in
        goes_with mid refl refl refl (told_first _ (omega (arith, few, on.count))) (sym (ap (drop _) on.rest ∙ drop_at on.told (rest_of s mid) _ one))

    -- no event was left
    goes_ended : (is : Run S K O) → Stops mid is → n < budget → rest_of s mid ≡ [] → rest_of s is ≡ rest_of s mid → Goes s k o budget was is
    goes_ended is stops lt none same =
        let all : rest_of s was ≡ on.told = on.rest ∙ ap (λ L. on.told ++ L) none ∙ append-nil on.told in
        let one : length (rest_of s was) ≤ min budget (k.capacity was.keeper.now) = omega (arith, few, on.count, ap length all) in
        goes_with is stops.keeper stops.sink stops.totals (sym (take_all _ (rest_of s was) one ∙ all)) (same ∙ none ∙ sym (drop_all _ (rest_of s was) (omega (arith, one))))

    -- the keeper was full
    goes_refused : (is : Run S K O) → Stops mid is → n < budget → (e : Event) → rest_of s mid ≡ e ∷ rest_of s is → length on.told ≡ k.capacity mid.keeper.now → Goes s k o budget was is
    goes_refused is stops lt e next full =
        let one : length (on.told ++ e ∷ []) ≡ min budget (k.capacity was.keeper.now + 1) = omega (arith, on.count, full, keeps.keeper_capacity, length_push on.told e) in
        let all : rest_of s was ≡ (on.told ++ e ∷ []) ++ rest_of s is = on.rest ∙ ap (λ L. on.told ++ L) next ∙ sym (append_assoc on.told (e ∷ []) (rest_of s is)) in
        goes_with is stops.keeper stops.sink stops.totals (told_first _ (omega (arith, on.count, full, keeps.keeper_capacity))) (sym (ap (drop _) all ∙ drop_at (on.told ++ e ∷ []) (rest_of s is) _ one))

    -- a step that told no event
    pub goes_stopped : (is : Run S K O) (step : Step) → n < budget → (step ≡ Told → ⊥) → Stepped s k o mid is step → Goes s k o budget was is
    goes_stopped is Told lt ne did = absurd (ne refl)
    goes_stopped is Ended lt ne did = goes_ended is did.0 lt (did.2 on.ended) did.1
    goes_stopped is (Refused f) lt ne did = goes_refused is did.0 lt did.2.0 did.2.1 (did.3 on.told on.going).1

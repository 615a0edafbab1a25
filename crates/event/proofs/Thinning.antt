-- Lists with accesses left out.
use Rattle.std.proofs.Common.{◌≡◌, true, List, [], ◌∷◌, refl}
use Rattle.std.specs.List.{AllByRecursion}
use Rattle.std.proofs.lemmas.Bool.{false≢true}
use Rattle.event.specs.declared.counts.Counts.{Counts}
use Rattle.event.specs.declared.letter.Letter.{Letter}
use Rattle.event.specs.declared.letter.Letter.TheVariants.{Read, Write, Acquire, Release, Fork, Join, Begin, End, Strong, Weak, Downgrade, Stop}
use Rattle.event.specs.declared.record.Event.{Event}
use Rattle.event.specs.Order.{Access, reads, writes}
use Rattle.event.specs.Thins.{After, Rising, Placed, Sound, accesses, access, Thins, none, keep, drop}

-- the test of an access tells the truth
pub access_true : (e : Event) → access e ≡ true → Access e
access_true e h = go e.letter refl h
  where
    go : (l : Letter) → e.letter ≡ l → accesses l ≡ true → Access e
    go Read s t = reads s
    go Write s t = writes s
    go Acquire s t = absurd (false≢true t)
    go Release s t = absurd (false≢true t)
    go Fork s t = absurd (false≢true t)
    go Join s t = absurd (false≢true t)
    go Begin s t = absurd (false≢true t)
    go End s t = absurd (false≢true t)
    go Strong s t = absurd (false≢true t)
    go Weak s t = absurd (false≢true t)
    go Downgrade s t = absurd (false≢true t)
    go Stop s t = absurd (false≢true t)

pub thins_refl : (L : List Event) → Thins L L
thins_refl [] = none
thins_refl (e ∷ L) = keep (thins_refl L)

pub thins_trans : {L M N : List Event} → Thins L M → Thins M N → Thins L N
thins_trans none q = q
thins_trans (keep p) (keep q) = keep (thins_trans p q)
thins_trans (keep p) (drop a q) = drop a (thins_trans p q)
thins_trans (drop a p) q = drop a (thins_trans p q)

thins_after : (e : Event) {W P : List Event} → Thins W P → After e W → After e P
thins_after e none a = a
thins_after e (keep t) a = (a.0, thins_after e t a.1)
thins_after e (drop x t) a = thins_after e t a.1

thins_rising : {W P : List Event} → Thins W P → Rising W → Rising P
thins_rising none r = r
thins_rising (keep {e} t) r = (thins_after e t r.0, thins_rising t r.1)
thins_rising (drop a t) r = thins_rising t r.1

thins_every : (Q : Event → Type 0) {W P : List Event} → Thins W P → AllByRecursion Q W → AllByRecursion Q P
thins_every Q none h = h
thins_every Q (keep t) h = (h.0, thins_every Q t h.1)
thins_every Q (drop a t) h = thins_every Q t h.1

-- a thinning of a sound list is sound
pub thins_sound : (c : Counts) {W P : List Event} → Thins W P → Sound c W → Sound c P
thins_sound c t s = record { rising = thins_rising t s.rising; placed = thins_every (Placed c) t s.placed }

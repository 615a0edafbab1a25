-- The objects as the mutex rule sees them: their kinds stay, and holders change one by one.
use Rattle.std.proofs.Common.{◌≡◌, ℕ, ◌<◌, List, [], ◌∷◌, None, Option, map, length, get_or, set, replicate, sym, refl, ap, ◌∙◌, arith}
use Rattle.std.proofs.lemmas.List.{same_lists, map-set, set-get_or, get_or-map, length-map}
use Rattle.format.specs.declared.kinds.ObjectKind.{ObjectKind}
use Rattle.format.specs.declared.kinds.ObjectKind.TheVariants.{Mutex}
use Rattle.format.specs.Standings.{standing, fresh}
use Rattle.trace.specs.declared.rules.Rules.{Rules}
use Rattle.trace.specs.declared.rules.lock.Lock.{Lock}
use Rattle.trace.specs.Standing.{free, kinds_in, standing_of}

-- what is written over an object, and agrees with it, changes nothing
pub unchanged : {A B : Type 0} (f : A → B) (l : List A) (i : ℕ) (d o : A) → f o ≡ f (get_or l i d) → map f (set l i o) ≡ map f l
unchanged f l i d o e = map-set f l i o ∙ ap (set (map f l) i) e ∙ sym (map-set f l i (get_or l i d)) ∙ ap (map f) (set-get_or l i d)

-- the kinds of objects
abbrev pub kinds : List Lock → List ObjectKind
kinds ls = map (λ o. o.kind) ls

pub kinds_free : (ks : List ObjectKind) → map (λ (o : Lock). o.kind) (map free ks) ≡ ks
kinds_free [] = refl
kinds_free (k ∷ ks) = ap (λ l. k ∷ l) (kinds_free ks)

pub holders_free : (ks : List ObjectKind) → map (λ (o : Lock). o.holder) (map free ks) ≡ replicate (length ks) None
holders_free [] = refl
holders_free (k ∷ ks) = ap (λ (l : List (Option ℕ)). None ∷ l) (holders_free ks)

-- objects that are each free are those of their kinds
pub all_free : (ks : List ObjectKind) (ls : List Lock) → length ls ≡ length ks → ((i : ℕ) (d : ObjectKind) (e : Lock) → i < length ls → get_or ls i e ≡ free (get_or ks i d)) → ls ≡ map free ks
all_free ks ls n h = same_lists ls (map free ks) (simp length-map n) (λ i e k. h i Mutex e k ∙ sym (get_or-map free ks i Mutex e (omega (arith, n))))

-- an object more that nobody holds
pub write_free : (ls : List Lock) (i : ℕ) (k : ObjectKind) → ls ≡ map free (kinds ls) → set ls i (free k) ≡ map free (kinds (set ls i (free k)))
write_free ls i k h = ap (λ l. set l i (free k)) h ∙ sym (map-set free (kinds ls) i k) ∙ ap (map free) (sym (map-set (λ o. o.kind) ls i (free k)))

-- rules over objects that nobody holds know their kinds
pub given_kinds : (r : Rules) (ks : List ObjectKind) → r.objects ≡ map free ks → kinds_in r ≡ ks
given_kinds r ks h = ap kinds h ∙ kinds_free ks

-- and are those before the first event, where the threads are too
pub given_fresh : (r : Rules) (ks : List ObjectKind) → r.objects ≡ map free ks → r.stages ≡ fresh.stages → standing_of r ≡ fresh
given_fresh r ks h s =
    let long : length ks ≡ 512 = sym (length-map ks free) ∙ ap length (sym h) ∙ r.sizes.1 in
    let holders = ap (map (λ (o : Lock). o.holder)) h ∙ holders_free ks ∙ ap (λ n. replicate n None) long in
    λ i. standing (s i) (holders i)

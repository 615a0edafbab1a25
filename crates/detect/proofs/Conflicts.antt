-- What the test of a finding says.
use Rattle.std.proofs.Common.{◌≡◌, ◌<◌, ◌≤◌, true, not, ◌||◌, eqb, ltb, leb}
use Rattle.std.proofs.lemmas.Bool.{and_parts, and_from, not-true, not_from_false, ltb-true, leb-true, eqb-true, eqb-false, lt-ltb, le-leb, eq-eqb, ne_eqb}
use Rattle.event.specs.declared.record.Event.{Event}
use Rattle.finds.specs.Latest.{is_write_letter}
use Rattle.detect.specs.Pairs.{conflicting}

pub record Conflicts (i j : Event) : Type 0 where
  pub order : i.place < j.place
  pub last : j.place ≤ 999999
  pub apart : i.thread ≡ j.thread → ⊥
  pub written : (is_write_letter i.letter || is_write_letter j.letter) ≡ true
  pub same : i.number ≡ j.number
  pub small : j.number < 256

pub conflicting_true : (i j : Event) → conflicting i j ≡ true → Conflicts i j
conflicting_true i j h =
    let a = and_parts (ltb i.place j.place) _ h in
    let b = and_parts (leb j.place 999999) _ a.1 in
    let c = and_parts (not (eqb i.thread j.thread)) _ b.1 in
    let d = and_parts (is_write_letter i.letter || is_write_letter j.letter) _ c.1 in
    let e = and_parts (eqb i.number j.number) _ d.1 in
    record {
      order = ltb-true _ _ a.0;
      last = leb-true _ _ b.0;
      apart = eqb-false _ _ (not-true _ c.0);
      written = d.0;
      same = eqb-true _ _ e.0;
      small = ltb-true _ _ e.1;
    }

pub true_conflicting : (i j : Event) → Conflicts i j → conflicting i j ≡ true
true_conflicting i j h =
    and_from _ _ (lt-ltb _ _ h.order)
    (and_from _ _ (le-leb _ _ h.last)
    (and_from _ _ (not_from_false _ (ne_eqb _ _ h.apart)) (and_from _ _ h.written (and_from _ _ (eq-eqb _ _ h.same) (lt-ltb _ _ h.small)))))

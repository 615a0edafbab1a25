-- A join that gives the least upper bound of two is associative, commutative and idempotent.
use Rattle.std.proofs.Common.{◌≡◌}
use Rattle.order.specs.Stamps.{Laws}

pub laws_of_bounds : {S : Type 0} {below : S → S → Type 0} {join : S → S → S} {least : S}
    → ((x : S) → below x x) → ((x y z : S) → below x y → below y z → below x z) → ((x y : S) → below x y → below y x → x ≡ y)
    → ((x y : S) → below x (join x y)) → ((x y : S) → below y (join x y)) → ((x y z : S) → below x z → below y z → below (join x y) z)
    → ((x : S) → below least x) → Laws below join least
laws_of_bounds {S} {below} {join} same through antisym left right tight bottom = record {
  reflexive = same;
  transitive = through;
  antisymmetric = antisym;
  left = left;
  right = right;
  tight = tight;
  associative = λ x y z. antisym (join (join x y) z) (join x (join y z)) (to_right x y z) (to_left x y z);
  commutative = λ x y. antisym (join x y) (join y x) (swapped x y) (swapped y x);
  idempotent = λ x. antisym (join x x) x (tight x x x (same x) (same x)) (left x x);
  bottom = bottom;
}
  where
    swapped : (x y : S) → below (join x y) (join y x)
    swapped x y = tight x y (join y x) (right y x) (left y x)

    to_right : (x y z : S) → below (join (join x y) z) (join x (join y z))
    to_right x y z =
        tight (join x y) z _
        (tight x y _ (left x (join y z)) (through _ _ _ (left y z) (right x (join y z))))
        (through _ _ _ (right y z) (right x (join y z)))

    to_left : (x y z : S) → below (join x (join y z)) (join (join x y) z)
    to_left x y z =
        tight x (join y z) _
        (through _ _ _ (left x y) (left (join x y) z))
        (tight y z _ (through _ _ _ (right x y) (left (join x y) z)) (right (join x y) z))

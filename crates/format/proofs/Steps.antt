-- What a parser's `Ok` says of its steps.
use Rattle.std.proofs.Common.{◌≡◌, ℕ, Bool, true, false, cond, ◌⊎◌, Some, None, Ok, Err, Option, Result, refl, ap, inl, inr, arith}
use Rattle.std.specs.Option.{ok_or}
use Rattle.format.specs.Parse.{map_ok, lift, and_then}

pub err_ok : {X E : Type 0} {Z : Type 0} (e : E) (x : X) → ◌≡◌ {A = Result X E} (Err e) (Ok x) → Z
err_ok e x h = let z : ◌≡◌ {A = ℕ} 0 1 = cc in absurd (omega arith)

pub ok_ok : {X E : Type 0} (x y : X) → ◌≡◌ {A = Result X E} (Ok x) (Ok y) → x ≡ y
ok_ok x y h = cc

pub then_ok : {X Y E : Type 0} (r : Result X E) (k : X → Result Y E) (y : Y) → and_then r k ≡ Ok y → (x : X) × (r ≡ Ok x) × (k x ≡ Ok y)
then_ok (Ok x) k y h = (x, refl, h)
then_ok (Err e) k y h = err_ok e y h

pub lift_ok : {X E F : Type 0} (g : E → F) (r : Result X E) (x : X) → lift g r ≡ Ok x → r ≡ Ok x
lift_ok g (Ok y) x h = ap Ok (ok_ok y x h)
lift_ok g (Err e) x h = err_ok (g e) x h

pub map_ok_parts : {X Y E : Type 0} (f : X → Y) (r : Result X E) (y : Y) → map_ok f r ≡ Ok y → (x : X) × (r ≡ Ok x) × (f x ≡ y)
map_ok_parts f (Ok x) y h = (x, refl, ok_ok (f x) y h)
map_ok_parts f (Err e) y h = err_ok e y h

-- of a test that refuses
pub if_ok : {X E : Type 0} (b : Bool) (r : Result X E) (e : E) (x : X) → cond b r (Err e) ≡ Ok x → (b ≡ true) × (r ≡ Ok x)
if_ok true r e x h = (refl, h)
if_ok false r e x h = err_ok e x h

-- and the other way: steps that are Ok
pub ok_then : {X Y E : Type 0} {r : Result X E} {x : X} (k : X → Result Y E) → r ≡ Ok x → and_then r k ≡ k x
ok_then k h = ap (λ s. and_then s k) h

pub ok_lift : {X E F : Type 0} (g : E → F) {r : Result X E} {x : X} → r ≡ Ok x → lift g r ≡ Ok x
ok_lift g h = ap (lift g) h

pub ok_lift_then : {X Y E F : Type 0} (g : E → F) {r : Result X E} {x : X} (k : X → Result Y F) → r ≡ Ok x → and_then (lift g r) k ≡ k x
ok_lift_then g k h = ap (λ s. and_then (lift g s) k) h

pub ok_map : {X Y E : Type 0} (f : X → Y) {r : Result X E} {x : X} → r ≡ Ok x → map_ok f r ≡ Ok (f x)
ok_map f h = ap (map_ok f) h

pub ok_if : {X E : Type 0} (b : Bool) (r : Result X E) (e : E) → b ≡ true → cond b r (Err e) ≡ r
ok_if b r e h = ap (λ t. cond t r (Err e)) h

pub lift_then_ok : {X Y E F : Type 0} (g : E → F) (r : Result X E) (k : X → Result Y F) (y : Y) → and_then (lift g r) k ≡ Ok y → (x : X) × (r ≡ Ok x) × (k x ≡ Ok y)
lift_then_ok g (Ok x) k y h = (x, refl, h)
lift_then_ok g (Err e) k y h = err_ok (g e) y h

pub either_ok : {X E : Type 0} (b : Bool) (r s : Result X E) (x : X) → cond b r s ≡ Ok x → ((b ≡ true) × (r ≡ Ok x)) ⊎ ((b ≡ false) × (s ≡ Ok x))
either_ok true r s x h = inl (refl, h)
either_ok false r s x h = inr (refl, h)

pub unless_ok : {X E : Type 0} (b : Bool) (e : E) (r : Result X E) (x : X) → cond b (Err e) r ≡ Ok x → (b ≡ false) × (r ≡ Ok x)
unless_ok true e r x h = err_ok e x h
unless_ok false e r x h = (refl, h)

pub ok_or_ok : {X E : Type 0} (o : Option X) (e : E) (x : X) → ok_or o e ≡ Ok x → o ≡ Some x
ok_or_ok None e x h = err_ok e x h
ok_or_ok (Some y) e x h = ap Some (ok_ok y x h)

pub ok_unless : {X E : Type 0} (b : Bool) (e : E) (r : Result X E) → b ≡ false → cond b (Err e) r ≡ r
ok_unless b e r h = ap (λ t. cond t (Err e) r) h

-- what a parser's `Err` says of its steps
pub ok_err : {X E : Type 0} {Z : Type 0} (x : X) (e : E) → ◌≡◌ {A = Result X E} (Ok x) (Err e) → Z
ok_err x e h = let z : ◌≡◌ {A = ℕ} 0 1 = cc in absurd (omega arith)

pub err_err : {X E : Type 0} (e f : E) → ◌≡◌ {A = Result X E} (Err e) (Err f) → e ≡ f
err_err e f h = cc

pub then_err : {X Y E : Type 0} (r : Result X E) (k : X → Result Y E) (f : E) → and_then r k ≡ Err f → (r ≡ Err f) ⊎ ((x : X) × (r ≡ Ok x) × (k x ≡ Err f))
then_err {X} {Y} {E} (Ok x) k f h = inr (x, refl, h)
then_err {X} {Y} {E} (Err e) k f h = inl (ap Err (err_err {X = Y} e f h))

pub lift_then_err : {X Y E F : Type 0} (g : E → F) (r : Result X E) (k : X → Result Y F) (f : F) → and_then (lift g r) k ≡ Err f → ((e : E) × (r ≡ Err e) × (g e ≡ f)) ⊎ ((x : X) × (r ≡ Ok x) × (k x ≡ Err f))
lift_then_err g (Ok x) k f h = inr (x, refl, h)
lift_then_err {X} {Y} g (Err e) k f h = inl (e, refl, err_err {X = Y} (g e) f h)

pub map_err : {X Y E : Type 0} (g : X → Y) (r : Result X E) (f : E) → map_ok g r ≡ Err f → r ≡ Err f
map_err g (Ok x) f h = ok_err (g x) f h
map_err {X} {Y} g (Err e) f h = ap Err (err_err {X = Y} e f h)

pub either_err : {X E : Type 0} (b : Bool) (r s : Result X E) (f : E) → cond b r s ≡ Err f → ((b ≡ true) × (r ≡ Err f)) ⊎ ((b ≡ false) × (s ≡ Err f))
either_err true r s f h = inl (refl, h)
either_err false r s f h = inr (refl, h)

-- Parsers of the bytes that remain: each answers what it read and what then remains, or its fault.
use Rattle.std.specs.Prelude.{ℕ, ◌+◌, ◌-◌, ◌*◌, cond, List, [], ◌∷◌, length, take, drop, Ok, Err, Result, nat_le, slice_index}
use Rattle.format.specs.declared.fault.ByteFault.{ByteFault}
use Rattle.format.specs.declared.fault.ByteFault.TheVariants.{Ends}

abbrev pub map_ok : {X Y E : Type 0} → (X → Y) → Result X E → Result Y E
map_ok f (Ok x) = Ok (f x)
map_ok f (Err e) = Err e

-- a fault of the layer below, carried whole
abbrev pub lift : {X E F : Type 0} → (E → F) → Result X E → Result X F
lift g (Ok x) = Ok x
lift g (Err e) = Err (g e)

abbrev pub and_then : {X Y E : Type 0} → Result X E → (X → Result Y E) → Result Y E
and_then (Ok x) k = k x
and_then (Err e) k = Err e

-- the offset of the first byte that remains, in a file of t bytes
abbrev pub here : ℕ → List ℕ → ℕ
here t bs = t - length bs

-- one byte, two and four bytes, and n bytes, of the item that begins at p
abbrev pub byte_from : ℕ → List ℕ → Result (ℕ × List ℕ) ByteFault
byte_from p [] = Err (Ends p)
byte_from p (b ∷ bs) = Ok (b, bs)

abbrev pub take_from : ℕ → ℕ → List ℕ → Result (List ℕ × List ℕ) ByteFault
take_from p n bs = cond (nat_le n (length bs)) (Ok (take n bs, drop n bs)) (Err (Ends p))

abbrev pub two_from : ℕ → List ℕ → Result (ℕ × List ℕ) ByteFault
two_from p bs = cond (nat_le 2 (length bs)) (Ok (256 * slice_index bs 0 + slice_index bs 1, drop 2 bs)) (Err (Ends p))

abbrev pub four_from : ℕ → List ℕ → Result (ℕ × List ℕ) ByteFault
four_from p bs = cond (nat_le 4 (length bs)) (Ok (16777216 * slice_index bs 0 + 65536 * slice_index bs 1 + 256 * slice_index bs 2 + slice_index bs 3, drop 4 bs)) (Err (Ends p))

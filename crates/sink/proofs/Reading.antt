-- The digits of a line have the value of the number, since they are its remainders by ten at each place.
use Rattle.std.proofs.Common.{◌≡◌, ℕ, ◌/◌, ◌%◌, ◌<◌, ◌≤◌, refl, arith}
use Rattle.std.specs.Str.Parse.{IsNumeral, digits_value}
use Rattle.std.specs.Char.{digit_value}
use Rattle.std.proofs.lemmas.Str.{digit_value_digit}
use Rattle.sink.specs.Line.{digit, three, six}
use Rattle.sink.specs.Readable.{ALineReadsBack}

value_digit : (n : ℕ) → digit_value (digit n) ≡ n % 10
value_digit n = let e = digit_value_digit (digit n) (omega arith, omega arith) in omega arith

small_digit : (n : ℕ) → digit_value (digit n) < 10
small_digit n = omega (arith, value_digit n)

three_digits : (n : ℕ) → IsNumeral 10 (three n)
three_digits n = (omega arith, (small_digit (n / 100), (small_digit (n / 10), (small_digit n, tt))))

three_value : (n : ℕ) → n < 1000 → digits_value 10 (three n) ≡ n
three_value n h = omega (arith, value_digit (n / 100), value_digit (n / 10), value_digit n)

six_digits : (n : ℕ) → IsNumeral 10 (six n)
six_digits n = (omega arith, (small_digit (n / 100000), (small_digit (n / 10000), (small_digit (n / 1000), (three_digits n).1))))

six_value : (n : ℕ) → n ≤ 999999 → digits_value 10 (six n) ≡ n
six_value n h =
    omega (arith, value_digit (n / 100000), value_digit (n / 10000), value_digit (n / 1000), value_digit (n / 100), value_digit (n / 10), value_digit n)

pub line_reads_back : ALineReadsBack
line_reads_back p h k s = record {
  wide = refl;
  earlier = record { digits = six_digits p.earlier.place; reads = six_value p.earlier.place h };
  later = record { digits = six_digits p.later.place; reads = six_value p.later.place k };
  variable = record { digits = three_digits p.earlier.number; reads = three_value p.earlier.number (omega arith) };
  accesses = refl;
  spaces = (refl, refl, refl);
  end = refl;
}

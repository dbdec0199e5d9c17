-- Numbers: the cut of their values, and which digits make one.
use Rattle.std.proofs.Common.{◌≡◌, ℕ, ◌+◌, ◌*◌, ◌-◌, ◌^◌, ◌<◌, min, true, List, length, take, get_or, arith}
use Rattle.std.specs.Prelude.{nat_lt}
use Rattle.std.specs.Char.{digit_value}
use Rattle.std.specs.Str.Parse.{digits_value}
use Rattle.std.proofs.lemmas.Bool.Decides.{nat_tests}
use Rattle.std.proofs.lemmas.Int.Digits.{digits_value_more}
use Rattle.std.proofs.lemmas.Str.{digit_value_digit}
use Rattle.jolie_tokens.specs.Bytes.{is_digit}
use Rattle.jolie_tokens.specs.Numbers.{largest_int, largest_long}

pub digit_is : (b : ℕ) → is_digit b ≡ true → digit_value b + 48 ≡ b
digit_is b e = digit_value_digit b (search (arith))

-- one more digit behind a value that is cut
pub value_more : (ds : List ℕ) (i v : ℕ) → i < length ds → is_digit (get_or ds i 0) ≡ true → v ≡ min (digits_value 10 (take i ds)) (2 ^ 64 - 1) → min (min (v * 10) (2 ^ 64 - 1) + (get_or ds i 0 - 48)) (2 ^ 64 - 1) ≡ min (digits_value 10 (take (i + 1) ds)) (2 ^ 64 - 1)
value_more ds i v lt d e =
    let step : digits_value 10 (take (i + 1) ds) ≡ digits_value 10 (take i ds) * 10 + digit_value (get_or ds i 0) = digits_value_more 10 ds i lt in
    let digit : digit_value (get_or ds i 0) + 48 ≡ get_or ds i 0 = digit_is (get_or ds i 0) d in
    omega arith

-- a long out of range is so by its value when cut
pub bad_long : (v n : ℕ) → v ≡ min n (2 ^ 64 - 1) → nat_lt largest_long n ≡ nat_lt largest_long v
bad_long v n e = grind (arith, nat_tests)

pub bad_int : (v n : ℕ) → v ≡ min n (2 ^ 64 - 1) → nat_lt largest_int n ≡ nat_lt largest_int v
bad_int v n e = grind (arith, nat_tests)

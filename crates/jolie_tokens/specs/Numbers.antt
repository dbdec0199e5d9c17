-- The digits of a number and what may follow them.
use Rattle.std.specs.Prelude.{ℕ, ◌<◌, Bool, false, ◌||◌, ◌&&◌, not, ◌==◌, nat_lt, List, [], ◌∷◌, length, if◌then◌else◌}
use Rattle.std.specs.List.{AllPass}
use Rattle.std.specs.Str.Parse.{digits_value}
use Rattle.jolie_tokens.specs.Bytes.{dot, letter_l, is_digit, is_letter, is_word_byte, begins}

-- the largest number of 32 bits with a sign
abbrev pub largest_int : ℕ
largest_int = 2147483647

-- the largest number of 64 bits with a sign
abbrev pub largest_long : ℕ
largest_long = 9223372036854775807

-- one digit or more
abbrev pub AreDigits : List ℕ → Type 0
AreDigits ds = (0 < length ds) × AllPass is_digit ds

-- the number that digits write
abbrev pub value : List ℕ → ℕ
value ds = digits_value 10 ds

-- a dot and a digit
abbrev pub begins_fraction : List ℕ → Bool
begins_fraction [] = false
begins_fraction (b ∷ bs) = b == dot && begins is_digit bs

-- the `L` that closes a long: no letter, digit or `_` follows it
abbrev pub closes_long : List ℕ → Bool
closes_long [] = false
closes_long (b ∷ bs) = b == letter_l && not (begins is_word_byte bs)

-- Digits make no number before these bytes: a long that is out of range, or else digits that a letter or a fraction
-- follows directly, or an int that is out of range.
abbrev pub is_bad_number : List ℕ → List ℕ → Bool
is_bad_number ds rest =
    if closes_long rest then nat_lt largest_long (value ds)
    else begins is_letter rest || begins_fraction rest || nat_lt largest_int (value ds)

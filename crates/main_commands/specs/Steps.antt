-- These definitions serve the proofs alone: no promise speaks of them.
-- How the number of an option and a list are read.
use Rattle.std.specs.Prelude.{ℕ, ◌+◌, ◌*◌, ◌^◌, ◌&&◌, nat_le, nat_lt, Option, Some, None, if◌then◌else◌}
use Rattle.std.specs.Char.{digit_value, is_ascii_digit}

-- the number where it is from the least to the most, else the most
abbrev pub within : ℕ → ℕ → ℕ → ℕ
within number least most = if nat_le least number && nat_le number most then number else most

-- the number with one digit more, where the byte is a digit and 32 bits hold it
abbrev pub longer : ℕ → ℕ → Option ℕ
longer number byte =
    if is_ascii_digit byte && nat_lt (number * 10 + digit_value byte) (2 ^ 32)
    then Some (number * 10 + digit_value byte) else None

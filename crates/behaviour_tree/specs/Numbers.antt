-- Whole numbers without bound, and the roots that hold them where they are in range.
use Rattle.std.specs.Prelude.{ℤ, pos, negsuc, ◌*ℤ◌, ◌-ℤ◌, int_le, int_div, zero, Bool}
use Rattle.std.specs.Prelude.{true, false, ◌&&◌, if◌then◌else◌, Option, None, Some}
use Rattle.jolie_trees.specs.declared.root.Root.{Root}
use Rattle.jolie_trees.specs.declared.root.Root.TheVariants as root

-- a number as an int, where 32 bits hold it
abbrev pub int_root : ℤ → Option Root
int_root z = if int_le (negsuc 2147483647) z && int_le z (pos 2147483647) then Some (root.Int z) else None

-- a number as a long, where 64 bits hold it
abbrev pub long_root : ℤ → Option Root
long_root z =
    if int_le (negsuc 9223372036854775807) z && int_le z (pos 9223372036854775807) then Some (root.Long z) else None

-- an operator on numbers: two ints give an int, an int and a long or two longs give a long, other kinds have no value
abbrev pub on_numbers : (ℤ → ℤ → ℤ) → Root → Root → Option Root
on_numbers f (root.Int a) (root.Int b) = int_root (f a b)
on_numbers f (root.Int a) (root.Long b) = long_root (f a b)
on_numbers f (root.Long a) (root.Int b) = long_root (f a b)
on_numbers f (root.Long a) (root.Long b) = long_root (f a b)
on_numbers f a b = None

-- zero
abbrev pub is_zero : ℤ → Bool
is_zero (pos zero) = true
is_zero z = false

-- a root that is the number zero
abbrev pub is_zero_root : Root → Bool
is_zero_root (root.Int z) = is_zero z
is_zero_root (root.Long z) = is_zero z
is_zero_root r = false

-- an operator that divides has no value where the divisor is zero
abbrev pub on_divisor : (ℤ → ℤ → ℤ) → Root → Root → Option Root
on_divisor f a b = if is_zero_root b then None else on_numbers f a b

-- what is left of a number: `a - b * (a / b)`, the quotient being cut towards zero
abbrev pub left_over : ℤ → ℤ → ℤ
left_over a b = a -ℤ b *ℤ int_div a b

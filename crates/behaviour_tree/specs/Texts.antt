-- The texts of roots, and the numbers that texts write.
use Rattle.std.specs.Prelude.{ℕ, ℤ, pos, neg_ℤ, Bool, ◌&&◌, ◌==◌, List, [], ◌∷◌}
use Rattle.std.specs.Prelude.{length, nat_le, if◌then◌else◌, Option, None, Some, option_map, codes}
use Rattle.std.specs.Fmt.{signed_decimal}
use Rattle.std.specs.List.{list_all}
use Rattle.std.specs.Str.Parse.{digits_value}
use Rattle.jolie_trees.specs.declared.root.Root.{Root}
use Rattle.jolie_trees.specs.declared.root.Root.TheVariants as root

-- the text of a root: a number in decimal digits, `true` or `false`, nothing for void, a text as it is
abbrev pub spelled : Root → List ℕ
spelled root.Void = []
spelled (root.Bool b) = if b then codes "true" else codes "false"
spelled (root.Int z) = signed_decimal z
spelled (root.Long z) = signed_decimal z
spelled (root.Text text) = text

-- a text as a root, where it has at most 65,536 bytes
abbrev pub text_root : List ℕ → Option Root
text_root text = if nat_le (length text) 65536 then Some (root.Text text) else None

-- an ASCII digit
abbrev pub is_digit : ℕ → Bool
is_digit b = nat_le 48 b && nat_le b 57

-- the number that one digit or more write, leading zeros being allowed
abbrev pub digits_in : List ℕ → Option ℕ
digits_in [] = None
digits_in (b ∷ bs) = if list_all is_digit (b ∷ bs) then Some (digits_value 10 (b ∷ bs)) else None

-- the number that a text writes: digits with or without a minus in front
abbrev pub number_in : List ℕ → Option ℤ
number_in [] = None
number_in (b ∷ bs) =
    if b == 45 then option_map (λ n. neg_ℤ (pos n)) (digits_in bs) else option_map pos (digits_in (b ∷ bs))

-- The operators on roots: None is where an operator has no value.
use Rattle.std.specs.Prelude.{ℕ, ℤ, pos, ◌+ℤ◌, ◌-ℤ◌, ◌*ℤ◌, int_div, Bool, true, false, ◌++◌, Option, None, Some}
use Rattle.jolie_trees.specs.declared.root.Root.{Root}
use Rattle.jolie_trees.specs.declared.root.Root.TheVariants as root
use Rattle.behaviour_tree.specs.declared.expr.SumOp.{SumOp}
use Rattle.behaviour_tree.specs.declared.expr.SumOp.TheVariants.{Plus, Minus}
use Rattle.behaviour_tree.specs.declared.expr.MulOp.{MulOp}
use Rattle.behaviour_tree.specs.declared.expr.MulOp.TheVariants.{Times, Over, Rest}
use Rattle.behaviour_tree.specs.Numbers.{on_numbers, on_divisor, left_over}
use Rattle.behaviour_tree.specs.Texts.{spelled, text_root}

-- `+`: a text on either side joins texts, a void without a text gives the other root, numbers are added
abbrev pub added : Root → Root → Option Root
added (root.Text a) b = text_root (a ++ spelled b)
added a (root.Text b) = text_root (spelled a ++ b)
added root.Void b = Some b
added a root.Void = Some a
added a b = on_numbers ◌+ℤ◌ a b

-- an operator of a sum
abbrev pub sum_of_two : SumOp → Root → Root → Option Root
sum_of_two Plus a b = added a b
sum_of_two Minus a b = on_numbers ◌-ℤ◌ a b

-- an operator of a product: `/` cuts towards zero
abbrev pub product_of_two : MulOp → Root → Root → Option Root
product_of_two Times a b = on_numbers ◌*ℤ◌ a b
product_of_two Over a b = on_divisor int_div a b
product_of_two Rest a b = on_divisor left_over a b

-- prefix `-` is `0 - a`
abbrev pub negated : Root → Option Root
negated a = on_numbers ◌-ℤ◌ (root.Int (pos 0)) a

-- what a root says where a bool is asked: a bool itself, void is false, no other kind says anything
abbrev pub truth_in : Root → Option Bool
truth_in root.Void = Some false
truth_in (root.Bool b) = Some b
truth_in r = None

-- `||`: where the left side is true it decides, whatever the right side is
abbrev pub either : Option Bool → Option Bool → Option Bool
either None b = None
either (Some true) b = Some true
either (Some false) b = b

-- `&&`: where the left side is false it decides, whatever the right side is
abbrev pub each : Option Bool → Option Bool → Option Bool
each None b = None
each (Some false) b = Some false
each (Some true) b = b

-- an operator on two values that both are there: a fault on either side is the fault of both
abbrev pub both : {A B : Type 0} → (A → A → Option B) → Option A → Option A → Option B
both f (Some a) (Some b) = f a b
both f a b = None

-- the index that a root is: an int from 0
abbrev pub index_in : Root → Option ℕ
index_in (root.Int (pos n)) = Some n
index_in r = None

-- the root of a text of a program, where a text is not too long
abbrev pub constant_root : Root → Option Root
constant_root (root.Text text) = text_root text
constant_root r = Some r

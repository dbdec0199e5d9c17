-- How two roots compare.
use Rattle.std.specs.Prelude.{Bool, true, false, not, Option, None, Some, option_map, bytes_eq}
use Rattle.std.specs.declared.cmp.Ordering.{Ordering}
use Rattle.std.specs.Ordering.{int_cmp, int_eq, nat_cmp, is_lt, is_le, is_gt, is_ge}
use Rattle.std.specs.Cmp.Lexicographic.{slice_cmp}
use Rattle.jolie_trees.specs.declared.root.Root.{Root}
use Rattle.jolie_trees.specs.declared.root.Root.TheVariants as root
use Rattle.behaviour_tree.specs.declared.expr.CompareOp.{CompareOp}
use Rattle.behaviour_tree.specs.declared.expr.CompareOp.TheVariants.{Equal, Unequal, Less, AtMost, More, AtLeast}

-- equal roots: numbers by their value, other kinds with their own kind; roots of different kinds are unequal
abbrev pub same : Root → Root → Bool
same root.Void root.Void = true
same (root.Bool true) (root.Bool b) = b
same (root.Bool false) (root.Bool b) = not b
same (root.Int a) (root.Int b) = int_eq a b
same (root.Int a) (root.Long b) = int_eq a b
same (root.Long a) (root.Int b) = int_eq a b
same (root.Long a) (root.Long b) = int_eq a b
same (root.Text a) (root.Text b) = bytes_eq a b
same a b = false

-- the order of two numbers by their value and of two texts by their bytes; no other kinds have one
abbrev pub order : Root → Root → Option Ordering
order (root.Int a) (root.Int b) = Some (int_cmp a b)
order (root.Int a) (root.Long b) = Some (int_cmp a b)
order (root.Long a) (root.Int b) = Some (int_cmp a b)
order (root.Long a) (root.Long b) = Some (int_cmp a b)
order (root.Text a) (root.Text b) = Some (slice_cmp nat_cmp a b)
order a b = None

-- what an operator answers on two roots: `==` and `!=` on all, the others where there is an order
abbrev pub compared_by : CompareOp → Root → Root → Option Bool
compared_by Equal a b = Some (same a b)
compared_by Unequal a b = Some (not (same a b))
compared_by Less a b = option_map is_lt (order a b)
compared_by AtMost a b = option_map is_le (order a b)
compared_by More a b = option_map is_gt (order a b)
compared_by AtLeast a b = option_map is_ge (order a b)

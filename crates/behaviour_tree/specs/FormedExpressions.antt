-- What well-formed expressions and paths are.
use Rattle.std.specs.Prelude.{pos, int_le, Bool, true, false, ◌&&◌, Option, None, Some}
use Rattle.jolie_trees.specs.declared.root.Root.TheVariants as root
use Rattle.behaviour_tree.specs.Data.{PathTree, Exp, constant, at_path, count_at, defined_at, literal}
use Rattle.behaviour_tree.specs.Data.{any_of, all_of, compared, sum, product, minus, negation, cast, Exps}
use Rattle.behaviour_tree.specs.Data.{no_exps, exp, SumParts, no_sum_parts, sum_part, MulParts, no_mul_parts}
use Rattle.behaviour_tree.specs.Data.{mul_part, MemberList, no_member_list, member_of, here, step, step_at}

abbrev mutual
  -- an expression: a level of `||` or of `&&` has two operands at least
  pub is_exp : Exp → Bool
  is_exp (constant r) = true
  is_exp (at_path p) = is_path p
  is_exp (count_at p) = is_path p
  is_exp (defined_at p) = is_path p
  is_exp (literal members) = are_members members
  is_exp (any_of es) = are_two_exps es
  is_exp (all_of es) = are_two_exps es
  is_exp (compared a op b) = is_exp a && is_exp b
  is_exp (sum e parts) = is_exp e && are_sum_parts parts
  is_exp (product e parts) = is_exp e && are_mul_parts parts
  is_exp (minus e) = is_exp e
  is_exp (negation e) = is_exp e
  is_exp (cast k e) = is_exp e

  -- two expressions at least
  pub are_two_exps : Exps → Bool
  are_two_exps no_exps = false
  are_two_exps (exp e es) = is_exp e && are_some_exps es

  -- one expression at least
  pub are_some_exps : Exps → Bool
  are_some_exps no_exps = false
  are_some_exps (exp e es) = is_exp e && are_exps es

  -- expressions
  pub are_exps : Exps → Bool
  are_exps no_exps = true
  are_exps (exp e es) = is_exp e && are_exps es

  -- what is added and taken away
  pub are_sum_parts : SumParts → Bool
  are_sum_parts no_sum_parts = true
  are_sum_parts (sum_part op e parts) = is_exp e && are_sum_parts parts

  -- what is multiplied and divided by
  pub are_mul_parts : MulParts → Bool
  are_mul_parts no_mul_parts = true
  are_mul_parts (mul_part op e parts) = is_exp e && are_mul_parts parts

  -- the members of a literal
  pub are_members : MemberList → Bool
  are_members no_member_list = true
  are_members (member_of name e members) = is_exp e && are_members members

  -- a path
  pub is_path : PathTree → Bool
  is_path here = true
  is_path (step name p) = is_path p
  is_path (step_at name e p) = is_exp e && is_path p

-- an index that is written as an int, which has no sign
abbrev pub is_int : Exp → Bool
is_int (constant (root.Int n)) = int_le (pos 0) n
is_int e = false

-- a path whose indices are ints
abbrev pub has_ints : PathTree → Bool
has_ints here = true
has_ints (step name p) = has_ints p
has_ints (step_at name e p) = is_int e && has_ints p

-- a path that a message goes to or comes from, if there is one
abbrev pub is_target : Option PathTree → Bool
is_target None = true
is_target (Some p) = has_ints p

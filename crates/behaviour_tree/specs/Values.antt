-- The value of an expression over a store: None is the fault ExprFault.
use Rattle.std.specs.Prelude.{ℕ, pos, Bool, true, false, not, List, [], ◌∷◌, Option, None}
use Rattle.std.specs.Prelude.{Some, is_some, option_and_then, option_map, unwrap_or}
use Rattle.jolie_trees.specs.declared.root.Root.{Root}
use Rattle.jolie_trees.specs.declared.root.Root.TheVariants as root
use Rattle.jolie_trees.specs.declared.path.Step.{Step}
use Rattle.jolie_trees.specs.declared.path.Path.{Path}
use Rattle.jolie_trees.specs.Data.{Tree, node, no_fields}
use Rattle.jolie_trees.specs.Trees.{void_tree, root_of, get, count, undef, push}
use Rattle.behaviour_tree.specs.Data as plain
use Rattle.behaviour_tree.specs.Data.{PathTree, Exp, Exps, SumParts, MulParts, MemberList}
use Rattle.behaviour_tree.specs.Numbers.{int_root}
use Rattle.behaviour_tree.specs.Operators.{sum_of_two, product_of_two, negated, truth_in}
use Rattle.behaviour_tree.specs.Operators.{either, each, both, index_in, constant_root}
use Rattle.behaviour_tree.specs.Comparisons.{compared_by}
use Rattle.behaviour_tree.specs.Casts.{cast_to}

-- a root alone, as all operators but paths and literals give it
abbrev pub alone : Root → Tree
alone r = node r no_fields

-- the root of a value
abbrev pub root_in : Option Tree → Option Root
root_in = option_map root_of

-- a step with its index
abbrev pub stepped : List ℕ → Option ℕ → Step
stepped name index = record { name = name; index = index }

-- the path of some steps
abbrev pub path_along : List Step → Path
path_along steps = record { steps = steps }

-- the whole tree at a path, void where nothing is there
abbrev pub tree_at : Tree → List Step → Tree
tree_at store steps = unwrap_or (get steps store) void_tree

-- how many nodes a path names, as an int: with an index at its last step 1 or 0
abbrev pub count_root : Tree → List Step → Option Root
count_root store steps = int_root (pos (count steps store))

-- whether a node is there
abbrev pub defined_root : Tree → List Step → Root
defined_root store steps = root.Bool (is_some (get steps store))

-- a tree with a member, what stood under its name before having given way
abbrev pub with_member : List ℕ → Tree → Tree → Tree
with_member name value t = push name value (undef (stepped name None ∷ []) t)

-- a literal with a further member, where both have a value
abbrev pub joined : List ℕ → Option Tree → Option Tree → Option Tree
joined name = both (λ t value. Some (with_member name value t))

abbrev mutual
  -- the value of an expression, or none where it faults
  pub value : Tree → Exp → Option Tree
  value store (plain.constant r) = option_map alone (constant_root r)
  value store (plain.at_path p) = option_map (tree_at store) (steps_of store p)
  value store (plain.count_at p) = option_map alone (option_and_then (count_root store) (steps_of store p))
  value store (plain.defined_at p) = option_map alone (option_map (defined_root store) (steps_of store p))
  value store (plain.literal ms) = literal_from store (Some void_tree) ms
  value store (plain.any_of es) = option_map alone (option_map root.Bool (any_from store es))
  value store (plain.all_of es) = option_map alone (option_map root.Bool (all_from store es))
  value store (plain.compared a op b) =
      option_map alone
      (option_map root.Bool (both (compared_by op) (root_in (value store a)) (root_in (value store b))))
  value store (plain.sum e es) = option_map alone (sum_from store (root_in (value store e)) es)
  value store (plain.product e es) = option_map alone (product_from store (root_in (value store e)) es)
  value store (plain.minus e) = option_map alone (option_and_then negated (root_in (value store e)))
  value store (plain.negation e) =
      option_map alone (option_map root.Bool (option_map not (option_and_then truth_in (root_in (value store e)))))
  value store (plain.cast to e) = option_map alone (option_and_then (cast_to to) (root_in (value store e)))

  -- the steps of a path, all indices being evaluated, or none where one of them is no int from 0
  pub steps_of : Tree → PathTree → Option (List Step)
  steps_of store plain.here = Some []
  steps_of store (plain.step name p) = option_map (λ steps. stepped name None ∷ steps) (steps_of store p)
  steps_of store (plain.step_at name e p) =
      option_and_then (λ n. option_map (λ steps. stepped name (Some n) ∷ steps) (steps_of store p))
      (option_and_then index_in (root_in (value store e)))

  -- the literal so far with further members: all of them are evaluated, and a later member of a name counts
  pub literal_from : Tree → Option Tree → MemberList → Option Tree
  literal_from store t plain.no_member_list = t
  literal_from store t (plain.member_of name e ms) = literal_from store (joined name t (value store e)) ms

  -- `||` of operands from the left
  pub any_from : Tree → Exps → Option Bool
  any_from store plain.no_exps = Some false
  any_from store (plain.exp e es) = either (option_and_then truth_in (root_in (value store e))) (any_from store es)

  -- `&&` of operands from the left
  pub all_from : Tree → Exps → Option Bool
  all_from store plain.no_exps = Some true
  all_from store (plain.exp e es) = each (option_and_then truth_in (root_in (value store e))) (all_from store es)

  -- what is added and taken away, one by one from the left
  pub sum_from : Tree → Option Root → SumParts → Option Root
  sum_from store a plain.no_sum_parts = a
  sum_from store a (plain.sum_part op e es) = sum_from store (both (sum_of_two op) a (root_in (value store e))) es

  -- what is multiplied and divided by, one by one from the left
  pub product_from : Tree → Option Root → MulParts → Option Root
  product_from store a plain.no_mul_parts = a
  product_from store a (plain.mul_part op e es) =
      product_from store (both (product_of_two op) a (root_in (value store e))) es

-- what an expression says where a bool is asked, as `if` and `while` ask it
abbrev pub truth_of : Tree → Exp → Option Bool
truth_of store e = option_and_then truth_in (root_in (value store e))

-- the path with its indices evaluated
abbrev pub path_in : Tree → PathTree → Option Path
path_in store p = option_map path_along (steps_of store p)

-- The node that a path leads to, step by step.
use Rattle.std.proofs.Common.{◌≡◌, List, Option, Some, None, Err, refl, ap}
use Rattle.std.specs.Prelude.{option_map, option_and_then, unwrap_or}
use Rattle.jolie_trees.specs.Data.{Tree}
use Rattle.jolie_trees.specs.Trees.{void_tree, get}
use Rattle.jolie_trees.specs.declared.path.Step.{Step}
use Rattle.behaviour_tree.specs.Data.{PathTree}
use Rattle.behaviour_tree.specs.Values.{steps_of, tree_at}
use Rattle.jolie_expr.specs.declared.eval_error.EvalError.{EvalError}
use Rattle.jolie_expr.specs.Answers.{Answers}
use Rattle.jolie_expr.specs.Steps.{node_in}
use Rattle.jolie_expr.proofs.Faults.{passes_on}

-- the node to which steps lead from a node that may be missing
abbrev pub node_along : Option Tree → Option (List Step) → Option (Option Tree)
node_along node steps = option_map (λ ss. option_and_then (get ss) node) steps

-- ---- what is read of the node

of_node : {A : Type 0} (f : Option Tree → A) (store : Tree) (steps : Option (List Step)) (node : Option Tree)
    → option_map (λ ss. get ss store) steps ≡ Some node → option_map (λ ss. f (get ss store)) steps ≡ Some (f node)
of_node f store None node h = cc
of_node f store (Some ss) node h = let is : get ss store ≡ node = cc in ap (λ o. Some (f o)) is

-- the whole of it
pub tree_of_node : (store : Tree) (p : PathTree) (node : Option Tree) → node_in store p ≡ Some node
    → option_map (tree_at store) (steps_of store p) ≡ Some (unwrap_or node void_tree)
tree_of_node store p node h = of_node (λ o. unwrap_or o void_tree) store (steps_of store p) node h

missing : {A : Type 0} (f : List Step → A) (store : Tree) (steps : Option (List Step))
    → option_map (λ ss. get ss store) steps ≡ None → option_map f steps ≡ None
missing f store None h = refl
missing f store (Some ss) h = cc

-- where there are no steps, nothing is read
pub node_passes : {A : Type 0} (f : List Step → A) (store : Tree) (p : PathTree) (e : EvalError) → Answers (node_in store p) (Err e)
    → Answers (option_map f (steps_of store p)) (Err e)
node_passes f store p e h = passes_on (node_in store p) (option_map f (steps_of store p)) e (missing f store (steps_of store p)) h

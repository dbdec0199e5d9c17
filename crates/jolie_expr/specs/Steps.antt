-- These definitions serve the proofs alone: no promise speaks of them.
-- One step of a path, and the node that a path leads to.
use Rattle.std.specs.Prelude.{ℕ, Option, None, Some, option_and_then, option_map}
use Rattle.jolie_trees.specs.Data.{Tree}
use Rattle.jolie_trees.specs.Trees.{get}
use Rattle.jolie_trees.specs.declared.path.Step.{Step}
use Rattle.behaviour_tree.specs.Data.{PathTree}
use Rattle.behaviour_tree.specs.Operators.{index_in}
use Rattle.behaviour_tree.specs.Values.{value, root_in, stepped, steps_of}
use Rattle.behaviour_tree.specs.View.{StepView}

-- the index of a step, if it has one; none of both where that is no int from 0
abbrev pub indexed : Tree → StepView → Option (Option ℕ)
indexed store s =
    elim s.index [
      | None ↦ Some None
      | Some e ↦ option_map (λ n. Some n) (option_and_then index_in (root_in (value store e)))
    ]

-- a step with its index evaluated, or none where that is no int from 0
abbrev pub step_in : Tree → StepView → Option Step
step_in store s = option_map (stepped s.name) (indexed store s)

-- the node at a path, if it is there; none of both where an index is no int from 0
abbrev pub node_in : Tree → PathTree → Option (Option Tree)
node_in store p = option_map (λ steps. get steps store) (steps_of store p)

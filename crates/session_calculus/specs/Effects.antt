-- What an action makes of the store.
use Rattle.std.specs.Prelude.{ℕ, pos, List, [], ◌∷◌, Option, None, Some, if◌then◌else◌}
use Rattle.jolie_trees.specs.declared.root.Root.TheVariants as root
use Rattle.jolie_trees.specs.declared.path.Step.{Step}
use Rattle.jolie_trees.specs.Data.{Tree}
use Rattle.jolie_trees.specs.Trees.{root_of, set, set_root, undef as removed}
use Rattle.jolie_trees.specs.Limits.{is_store}
use Rattle.behaviour_tree.specs.Data.{PathTree, here, step, step_at, Exp, constant}
use Rattle.behaviour_tree.specs.Values.{value, steps_of, stepped}
use Rattle.session_calculus.specs.Names.{expr_fault, store_too_large}

-- what an action on the store does: the fault that it has, or the store that it makes
pub data Effect : Type 0 where
  faults : ℕ → Effect
  stores : Tree → Effect

-- a new store, where it passes no limit
abbrev pub stored : Tree → Effect
stored store = if is_store store then stores store else faults store_too_large

-- the root of a value at a path; either may fault
abbrev pub assigned : Tree → Option (List Step) → Option Tree → Effect
assigned store (Some path) (Some v) = stored (set_root path (root_of v) store)
assigned store path v = faults expr_fault

-- what an assignment does to a store
abbrev pub effect_of : Tree → PathTree → Exp → Effect
effect_of store p e = assigned store (steps_of store p) (value store e)

-- the whole tree of a value in place of the node at a path; either may fault
abbrev pub put : Tree → Option (List Step) → Option Tree → Effect
put store (Some path) (Some v) = stored (set path v store)
put store path v = faults expr_fault

-- what a copy does to a store
abbrev pub copied : Tree → PathTree → Exp → Effect
copied store p e = put store (steps_of store p) (value store e)

-- a store without the nodes that a path names; the path may fault
abbrev pub taken_away : Tree → Option (List Step) → Effect
taken_away store None = faults expr_fault
taken_away store (Some path) = stored (removed path store)

-- what an undef does to a store
abbrev pub effect_of_undef : Tree → PathTree → Effect
effect_of_undef store p = taken_away store (steps_of store p)

-- ---- the paths of inputs, replies and answers

-- an index that is written as a number. No other can stand in such a path: it would be read as none
abbrev pub written_index : Exp → Option ℕ
written_index (constant (root.Int (pos n))) = Some n
written_index e = None

-- the steps of a path whose indices are written as numbers
abbrev pub written_steps : PathTree → List Step
written_steps here = []
written_steps (step name p) = stepped name None ∷ written_steps p
written_steps (step_at name e p) = stepped name (written_index e) ∷ written_steps p

-- what a value that came makes of the store: it is the whole node at the target, unless that passes a limit. An omitted
-- target is not set
abbrev pub received : Tree → Option PathTree → Tree → Effect
received store None v = stores store
received store (Some x) v = stored (set (written_steps x) v store)

-- Laws of trees that hold whatever the tree, the path and the value.
use Rattle.std.specs.Prelude.{◌≡◌, ◌+◌, List, Some, true}
use Rattle.jolie_trees.specs.declared.path.Step.{Step}
use Rattle.jolie_trees.specs.Data.{Tree}
use Rattle.jolie_trees.specs.Trees.{get, set, undef, size}
use Rattle.jolie_trees.specs.Limits.{is_store}
use Rattle.jolie_trees.specs.Counts.{taken}

-- what was set at a path stands at the path
abbrev pub KeepsWhatIsSet : Type 0
KeepsWhatIsSet = (p : List Step) (value t : Tree) → get p (set p value t) ≡ Some value

-- a tree within both limits stays within them, whatever is taken away from it
abbrev pub UndefKeepsLimits : Type 0
UndefKeepsLimits = (p : List Step) (t : Tree) → is_store t ≡ true → is_store (undef p t) ≡ true

-- what is taken away, and what is left, are all that was there
abbrev pub UndefTakes : Type 0
UndefTakes = (p : List Step) (t : Tree) → size (undef p t) + taken p t ≡ size t

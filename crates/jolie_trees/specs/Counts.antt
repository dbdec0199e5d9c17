-- What is answered of a store whose nodes are counted.
use Rattle.std.specs.Prelude.{◌≡◌, ℕ, List, [], ◌∷◌, true, false, Option, None, Some, option_map, unwrap_or}
use Rattle.jolie_trees.specs.declared.path.Step.{Step}
use Rattle.jolie_trees.specs.Data.{Tree, Trees}
use Rattle.jolie_trees.specs.Trees.{size, trees_size, nth, under, children_of, child}
use Rattle.jolie_trees.specs.Limits.{is_store}

-- the number of nodes of a tree, where it is within the limits of a store, and none where it is not
abbrev pub FitsAs : Tree → Option ℕ → Type 0
FitsAs t None = is_store t ≡ false
FitsAs t (Some n) = (is_store t ≡ true) × (n ≡ size t)

-- how many nodes go where a last step is taken away: the whole vector where it has no index
abbrev pub taken_of : Option ℕ → Trees → ℕ
taken_of None ts = trees_size ts
taken_of (Some n) ts = unwrap_or (option_map size (nth n ts)) 0

-- how many nodes go where a path is taken away
abbrev pub taken : List Step → Tree → ℕ
taken [] t = 0
taken (s ∷ []) t = taken_of s.index (under s.name (children_of t))
taken (s ∷ s' ∷ p) t = unwrap_or (option_map (taken (s' ∷ p)) (child s t)) 0

-- These definitions serve the proofs alone: no promise speaks of them.
-- A number for each tree and each vector that falls on the way down, by which a walk over them ends.
use Rattle.std.specs.Prelude.{ℕ, ◌+◌, ◌*◌, ◌≤◌, List, [], ◌∷◌}
use Rattle.std.proofs.Common.{arith}
use Rattle.std.specs.Map.{values_of}
use denote.Param.Weighed.{most}
use Rattle.jolie_trees.specs.Data.{Tree, Trees}
use Rattle.jolie_trees.specs.Trees.{levels, fields_levels, trees_levels}
use Rattle.jolie_trees.specs.TreeView.{trees_of, fields_of}

-- a number above that of each vector below
abbrev pub tree_rank : Tree → ℕ
tree_rank t = 2 * levels t

-- a number above that of each tree in it
abbrev pub trees_rank : Trees → ℕ
trees_rank ts = 2 * trees_levels ts + 1

pub trees_fall : (ts : List Tree) → most (λ t. tree_rank t + 1) ts ≤ trees_rank (trees_of ts)
trees_fall [] = omega arith
trees_fall (t ∷ ts) = omega (arith, trees_fall ts)

pub fields_fall : (es : List (List ℕ × Trees))
    → most (λ ts. trees_rank ts + 1) (values_of es) ≤ 2 * fields_levels (fields_of es) + 2
fields_fall [] = omega arith
fields_fall (e ∷ es) = omega (arith, fields_fall es)

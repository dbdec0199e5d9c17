-- These definitions serve the proofs alone: no promise speaks of them.
-- A change in place, as the calls that change a tree make it.
use Rattle.std.specs.Prelude.{ℕ, List, [], ◌∷◌, Option, None, Some}
use Rattle.std.specs.Option.{option_len}
use Rattle.jolie_trees.specs.declared.tree.change.Change.{Change}
use Rattle.jolie_trees.specs.declared.tree.change.Change.TheVariants.{Whole, OnlyRoot}
use Rattle.jolie_trees.specs.Data.{Tree, node, Trees}
use Rattle.jolie_trees.specs.Trees.{with_root, change_under, undef, left_of, change_nth_if_there, index_of}
use Rattle.jolie_trees.specs.Trees.{count_of, nth}
use Rattle.jolie_trees.specs.declared.path.Step.{Step}

-- what a change makes of a node
abbrev pub applied : Change → Tree → Tree
applied (Whole value) t = value
applied (OnlyRoot r) t = with_root r t

-- a tree with that vector under that name
abbrev pub with_vector : List ℕ → Trees → Tree → Tree
with_vector name ts (node r fs) = node r (change_under name (λ _. ts) fs)

-- what a path without its nodes leaves of the vector into which its first step leads
abbrev pub undef_below : Step → List Step → Trees → Trees
undef_below s [] = left_of s.index
undef_below s (s' ∷ p) = change_nth_if_there (index_of s) (undef (s' ∷ p))

-- how many nodes of a vector a step without its name names
abbrev pub count_in : Option ℕ → Trees → ℕ
count_in None ts = count_of ts
count_in (Some n) ts = option_len (nth n ts)

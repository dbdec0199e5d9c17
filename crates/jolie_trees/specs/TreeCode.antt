-- These definitions serve the proofs alone: no promise speaks of them.
-- The code of trees, by which a proof tells two of them apart.
use Rattle.std.specs.Prelude.{◌≡◌, ◌⊎◌, ℕ, List, refl}
use Rattle.std.specs.Coded.{Coded, coded_list, coded_ℕ, coded⊎}
use mathlib.Core.Path.{ap}
use mathlib.Core.Logic.{inl, inr}
use Rattle.jolie_trees.specs.declared.root.Root.{Root}
use Rattle.jolie_trees.specs.declared.root.Root.TheVariants as root
use Rattle.jolie_trees.specs.contracts.root.Root as root_row
use Rattle.jolie_trees.specs.Data.{Tree, node, Fields, no_fields, field, Trees, no_trees, tree}
use Rattle.jolie_trees.specs.Coding.{Bin, nil, tip, bin, coded_by_bin}

-- what a leaf holds: a root or a name
abbrev pub Leaf : Type 0
Leaf = Root ⊎ List ℕ

abbrev mutual
  pub tree_to_bin : Tree → Bin Leaf
  tree_to_bin (node r fs) = bin (tip (inl r)) (fields_to_bin fs)

  pub fields_to_bin : Fields → Bin Leaf
  fields_to_bin no_fields = nil
  fields_to_bin (field name ts fs) = bin (bin (tip (inr name)) (trees_to_bin ts)) (fields_to_bin fs)

  pub trees_to_bin : Trees → Bin Leaf
  trees_to_bin no_trees = nil
  trees_to_bin (tree t ts) = bin (tree_to_bin t) (trees_to_bin ts)

abbrev mutual
  pub tree_from_bin : Bin Leaf → Tree
  tree_from_bin (bin (tip (inl r)) b) = node r (fields_from_bin b)
  tree_from_bin _ = node root.Void no_fields

  pub fields_from_bin : Bin Leaf → Fields
  fields_from_bin (bin (bin (tip (inr name)) a) b) = field name (trees_from_bin a) (fields_from_bin b)
  fields_from_bin _ = no_fields

  pub trees_from_bin : Bin Leaf → Trees
  trees_from_bin (bin a b) = tree (tree_from_bin a) (trees_from_bin b)
  trees_from_bin _ = no_trees

mutual
  pub tree_back : (t : Tree) → tree_from_bin (tree_to_bin t) ≡ t
  tree_back (node r fs) = ap (node r) (fields_back fs)

  pub fields_back : (fs : Fields) → fields_from_bin (fields_to_bin fs) ≡ fs
  fields_back no_fields = refl
  fields_back (field name ts fs) = λ i. field name (trees_back ts i) (fields_back fs i)

  pub trees_back : (ts : Trees) → trees_from_bin (trees_to_bin ts) ≡ ts
  trees_back no_trees = refl
  trees_back (tree t ts) = λ i. tree (tree_back t i) (trees_back ts i)

-- the code of trees
abbrev pub tree_code : Coded Tree
tree_code = coded_by_bin (coded⊎ root_row.the_row.coded (coded_list coded_ℕ)) tree_to_bin tree_from_bin tree_back

-- the code of lists of trees
abbrev pub trees_code : Coded Trees
trees_code =
    coded_by_bin (coded⊎ root_row.the_row.coded (coded_list coded_ℕ)) trees_to_bin trees_from_bin trees_back

use Rattle.std.proofs.Common.{◌≡◌, ◌+◌, max, drop}
use Rattle.jolie_trees.specs.Extents.{extent, fields_extent, trees_extent}
use Rattle.jolie_trees.specs.Trees.{fields_size, fields_levels, trees_size, trees_levels}
use Rattle.jolie_trees.specs.TreeView.{trees_of}
use Rattle.jolie_trees.proofs.Sizes.{unnamed}
use Rattle.jolie_trees.proofs.tree.+extent.Given as goal

abbrev pub invariant-Tree::extent-loop-members : goal.invariant-Tree::extent-loop-members
invariant-Tree::extent-loop-members l =
    let left = unnamed l.members-iterator in
    extent (l.below.nodes + fields_size left) (max l.below.levels (fields_levels left)) ≡ fields_extent (unnamed l.initial.members-iterator)

abbrev pub invariant-measure::extent_of_all-loop-tree : goal.invariant-measure::extent_of_all-loop-tree
invariant-measure::extent_of_all-loop-tree l =
    let left = trees_of (drop l.tree-index l.trees) in
    (extent (l.all.nodes + trees_size left) (max l.all.levels (trees_levels left)) ≡ trees_extent (trees_of l.trees)) × (l.all ≡ extent l.all.nodes l.all.levels)

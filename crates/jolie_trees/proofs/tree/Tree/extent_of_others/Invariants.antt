use Rattle.std.proofs.Common.{◌≡◌, ◌+◌, max}
use Rattle.jolie_trees.specs.Extents.{extent, fields_extent, others}
use Rattle.jolie_trees.specs.Trees.{fields_size, fields_levels}
use Rattle.jolie_trees.specs.TreeView.{fields_of}
use Rattle.jolie_trees.proofs.tree.Tree.extent_of_others.Given as goal

abbrev pub invariant-loop-key : goal.invariant-loop-key
invariant-loop-key l =
    let left = others l.name (fields_of l.key-iterator) in
    (extent (l.all.nodes + fields_size left) (max l.all.levels (fields_levels left)) ≡ fields_extent (others l.name (fields_of l.initial.key-iterator)))
    × (l.all ≡ extent l.all.nodes l.all.levels)

use Rattle.std.proofs.Common.{◌+◌, ◌*◌, length}
use Rattle.jolie_trees.proofs.tree.+growth.Given as goal

abbrev pub decreases-Tree::extent_with : goal.decreases-Tree::extent_with
decreases-Tree::extent_with l = length l.steps.now * 3

abbrev pub decreases-Tree::vector_with : goal.decreases-Tree::vector_with
decreases-Tree::vector_with l = length l.rest.now * 3 + 2

abbrev pub decreases-Members::extent_with : goal.decreases-Members::extent_with
decreases-Members::extent_with l = length l.rest.now * 3 + 1

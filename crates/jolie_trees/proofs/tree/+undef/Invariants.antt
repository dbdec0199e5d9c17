use Rattle.std.proofs.Common.{◌+◌, ◌*◌, length}
use Rattle.jolie_trees.proofs.tree.+undef.Given as goal

abbrev pub decreases-Tree::undef_along : goal.decreases-Tree::undef_along
decreases-Tree::undef_along l = length l.steps.now * 2

abbrev pub decreases-Members::undef_below : goal.decreases-Members::undef_below
decreases-Members::undef_below l = length l.rest.now * 2 + 1

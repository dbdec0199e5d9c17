use Rattle.std.proofs.Common.{length}
use Rattle.jolie_trees.proofs.tree.Tree.+count_along.Given as goal

abbrev pub decreases-count_along : goal.decreases-count_along
decreases-count_along l = length l.steps.now

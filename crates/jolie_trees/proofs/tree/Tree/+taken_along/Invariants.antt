use Rattle.std.proofs.Common.{length}
use Rattle.jolie_trees.proofs.tree.Tree.+taken_along.Given as goal

abbrev pub decreases-taken_along : goal.decreases-taken_along
decreases-taken_along l = length l.steps.now

use Rattle.std.proofs.Common.{length}
use Rattle.jolie_trees.proofs.tree.Tree.+made_along.Given as goal

abbrev pub decreases-made_along : goal.decreases-made_along
decreases-made_along l = length l.steps.now

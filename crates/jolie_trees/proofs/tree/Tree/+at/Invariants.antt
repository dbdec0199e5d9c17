use Rattle.std.proofs.Common.{length}
use Rattle.jolie_trees.proofs.tree.Tree.+at.Given as goal

abbrev pub decreases-at : goal.decreases-at
decreases-at l = length l.steps.now

use Rattle.std.proofs.Common.{◌+◌, ◌*◌, length}
use Rattle.jolie_trees.proofs.tree.growth.+made.Given as goal

abbrev pub decreases-made_vector : goal.decreases-made_vector
decreases-made_vector l = length l.steps.now * 2 + 1

abbrev pub decreases-made_node : goal.decreases-made_node
decreases-made_node l = length l.steps.now * 2

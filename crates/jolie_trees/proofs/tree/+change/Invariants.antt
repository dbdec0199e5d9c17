use Rattle.std.proofs.Common.{◌+◌, ◌*◌, length}
use Rattle.jolie_trees.proofs.tree.+change.Given as goal

abbrev pub decreases-Tree::change : goal.decreases-Tree::change
decreases-Tree::change l = length l.steps.now * 3

abbrev pub decreases-change::change_padded : goal.decreases-change::change_padded
decreases-change::change_padded l = length l.steps.now * 3 + 1

abbrev pub decreases-Members::change : goal.decreases-Members::change
decreases-Members::change l = length l.steps.now * 3 + 2

use Rattle.std.proofs.Common.{length}
use Rattle.jolie_trees.proofs.tree.counted.+made_anew.Given as goal

abbrev pub decreases-made_anew : goal.decreases-made_anew
decreases-made_anew l = length l.steps.now

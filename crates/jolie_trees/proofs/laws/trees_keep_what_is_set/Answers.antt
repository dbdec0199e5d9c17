use Rattle.jolie_trees.proofs.Kept.{get-set}
use Rattle.jolie_trees.proofs.laws.trees_keep_what_is_set.Goals as goal

pub returns : goal.returns
returns c = get-set

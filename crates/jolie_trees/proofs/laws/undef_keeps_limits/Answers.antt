use Rattle.jolie_trees.proofs.Lessened.{undef-keeps_limits}
use Rattle.jolie_trees.proofs.laws.undef_keeps_limits.Goals as goal

pub returns : goal.returns
returns c = undef-keeps_limits

use Rattle.jolie_trees.proofs.Taken.{undef-takes}
use Rattle.jolie_trees.proofs.laws.undef_takes.Goals as goal

pub returns : goal.returns
returns c = undef-takes

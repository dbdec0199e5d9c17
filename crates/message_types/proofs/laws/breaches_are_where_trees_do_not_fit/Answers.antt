use Rattle.message_types.proofs.NoBreach.{breach-fits}
use Rattle.message_types.proofs.laws.breaches_are_where_trees_do_not_fit.Goals as goal

pub returns : goal.returns
returns c = breach-fits

use Rattle.message_types.proofs.NoBreach.{first_breach-conforms}
use Rattle.message_types.proofs.laws.breaches_are_where_trees_do_not_conform.Goals as goal

pub returns : goal.returns
returns c = first_breach-conforms

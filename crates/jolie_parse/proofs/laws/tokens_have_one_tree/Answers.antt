use Rattle.jolie_parse.proofs.Equal.{have_one_tree}
use Rattle.jolie_parse.proofs.laws.tokens_have_one_tree.Goals as goal

pub returns : goal.returns
returns c = have_one_tree

use Rattle.jolie_parse.proofs.LeftOut.{statements_left_out}
use Rattle.jolie_parse.proofs.laws.statements_may_be_left_out.Goals as goal

pub returns : goal.returns
returns c = statements_left_out

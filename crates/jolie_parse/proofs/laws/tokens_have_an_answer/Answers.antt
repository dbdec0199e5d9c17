use Rattle.jolie_parse.proofs.Files.{have_an_answer}
use Rattle.jolie_parse.proofs.laws.tokens_have_an_answer.Goals as goal

pub returns : goal.returns
returns c = have_an_answer

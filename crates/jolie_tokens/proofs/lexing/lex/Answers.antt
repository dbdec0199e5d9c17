use Rattle.jolie_tokens.proofs.Steps.{read_exactly, refused_exactly}
use Rattle.jolie_tokens.proofs.lexing.lex.Goals as goal

pub returns-clause-read : goal.returns-clause-read
returns-clause-read c tokens le read = read_exactly c.args.text.now c.tokens_of.result tokens c.tokens_of.ensures read

pub returns-clause-exact : goal.returns-clause-exact
returns-clause-exact c e le refused = refused_exactly c.args.text.now c.tokens_of.result e c.tokens_of.ensures refused

use Rattle.jolie_parse.proofs.Spellings.{tokens_stand}
use Rattle.explain_hints.proofs.short.shortened.Goals as goal

pub is_shallow-requires : goal.is_shallow-requires
is_shallow-requires c = tokens_stand c.args.text.now c.args.tokens.now c.requires.lexed

pub without_statements-requires-clause-stand : goal.without_statements-requires-clause-stand
without_statements-requires-clause-stand c = tokens_stand c.args.text.now c.args.tokens.now c.requires.lexed

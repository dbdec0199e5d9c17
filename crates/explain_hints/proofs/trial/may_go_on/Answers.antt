-- Bytes that are no file and begin none.
use Rattle.explain_hints.proofs.Trials.{no_tokens, stops, goes_too_deep}
use Rattle.explain_hints.proofs.trial.may_go_on.Goals as goal

pub returns-in-Err : goal.returns-in-Err
returns-in-Err c =
    no_tokens c.args.bytes.now c.lex.result c.in-Err.error c.in-Err.is c.in_ok-unless_memory-in-Err.ensures c.lex.ensures.read

pub returns-in-Err-Syntax : goal.returns-in-Err-Syntax
returns-in-Err-Syntax c =
    stops c.args.bytes.now c.lex.result c.in-Ok.tokens c.parse.result _ c.in-Err-Syntax.at c.in-Ok.is c.lex.ensures.read
    c.in-Err-Syntax.is c.in-Err-Syntax.field-0-is c.parse.ensures.complete c.parse.ensures.refused c.if-at-bytes.false

pub returns-in-Err-TooDeep : goal.returns-in-Err-TooDeep
returns-in-Err-TooDeep c =
    goes_too_deep c.args.bytes.now c.lex.result c.in-Ok.tokens c.parse.result _ c.in-Err-TooDeep.field-0-0 c.in-Ok.is c.lex.ensures.read
    c.in-Err-TooDeep.is c.in-Err-TooDeep.field-0-is c.parse.ensures.complete c.parse.ensures.refused

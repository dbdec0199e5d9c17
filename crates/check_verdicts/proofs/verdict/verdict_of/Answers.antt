-- A text whose tokens are no file.
use Rattle.check_verdicts.proofs.ReadOrRefused.{fits, refused_by_parse}
use Rattle.check_verdicts.proofs.verdict.verdict_of.Goals as goal

pub returns : goal.returns
returns c =
    refused_by_parse c.args.text.now _ c.parse.result c.in-Err-parse.error c.in_ok-by_parse-in-Err-parse.field-0
    (fits c.lex.result _ _ c.in-Ok.is c.lex.ensures.too_long) c.in-Ok.ensures.ok c.in-Err-parse.is c.parse.ensures.syntax c.parse.ensures.too_deep
    c.in_ok-by_parse-in-Err-parse.ensures

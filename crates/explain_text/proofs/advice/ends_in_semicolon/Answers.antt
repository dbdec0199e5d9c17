use Rattle.std.proofs.Common.{subst}
use Rattle.std.specs.Prelude.{MatchBool}
use Rattle.explain_text.specs.Advised.{LastIsSemicolon}
use Rattle.explain_text.proofs.Ends.{ends_so, ends_nowhere}
use Rattle.explain_text.proofs.advice.ends_in_semicolon.Goals as goal

pub returns-in-Ok : goal.returns-in-Ok
returns-in-Ok c =
    ends_so c.args.bytes.now c.lex.result c.in-Ok.tokens c.last_is_semicolon.result c.in-Ok.is c.lex.ensures.too_long c.lex.ensures.read c.in-Ok.ensures.ok
    (subst (λ ts. MatchBool c.last_is_semicolon.result (LastIsSemicolon ts) (LastIsSemicolon ts → ⊥)) c.as_slice.ensures c.last_is_semicolon.ensures)

pub returns-in-Err-TooLong : goal.returns-in-Err-TooLong
returns-in-Err-TooLong c = ends_nowhere c.args.bytes.now c.lex.result _ _ c.in-Err-TooLong.is c.in-Err-TooLong.field-0-is tt c.lex.ensures.read

pub returns-in-Err-BadByte : goal.returns-in-Err-BadByte
returns-in-Err-BadByte c = ends_nowhere c.args.bytes.now c.lex.result _ _ c.in-Err-BadByte.is c.in-Err-BadByte.field-0-is tt c.lex.ensures.read

pub returns-in-Err-OpenString : goal.returns-in-Err-OpenString
returns-in-Err-OpenString c = ends_nowhere c.args.bytes.now c.lex.result _ _ c.in-Err-OpenString.is c.in-Err-OpenString.field-0-is tt c.lex.ensures.read

pub returns-in-Err-OpenComment : goal.returns-in-Err-OpenComment
returns-in-Err-OpenComment c = ends_nowhere c.args.bytes.now c.lex.result _ _ c.in-Err-OpenComment.is c.in-Err-OpenComment.field-0-is tt c.lex.ensures.read

pub returns-in-Err-BadNumber : goal.returns-in-Err-BadNumber
returns-in-Err-BadNumber c = ends_nowhere c.args.bytes.now c.lex.result _ _ c.in-Err-BadNumber.is c.in-Err-BadNumber.field-0-is tt c.lex.ensures.read

use Rattle.jolie_parse.specs.ClassNames as classes
use Rattle.jolie_parse.specs.Factored.{one_statement}
use Rattle.jolie_parse.proofs.Lists.{passes, next_fails, next_shorter, next_goes, nexts_end}
use Rattle.jolie_parse.proofs.Statements.{statements_decided}
use Rattle.jolie_parse.proofs.cursor.Cursor.next_statements.Goals as goal

pub returns-in_err-statement : goal.returns-in_err-statement
returns-in_err-statement c =
    passes _ c.from_residual.result c.in_err-statement.field-0.0 _ c.from_residual.ensures.1
    (next_fails c.args.levels classes.sign_semicolon one_statement statements_decided _ _ _ _ _ _ _ c.loop-statements.invariant c.eat.ensures.found c.eat.ensures.rest c.loop-statements-test.true c.in_err-statement.ensures)

pub loop-statements-smaller : goal.loop-statements-smaller
loop-statements-smaller c = next_shorter c.args.levels classes.sign_semicolon one_statement statements_decided _ _ _ _ _ c.eat.ensures.found c.eat.ensures.rest c.loop-statements-test.true c.in_ok-statement.ensures

pub loop-statements-preserved : goal.loop-statements-preserved
loop-statements-preserved c =
    next_goes c.args.levels classes.sign_semicolon one_statement statements_decided _ _ _ _ _ _ _ _ c.loop-statements.invariant c.eat.ensures.found c.eat.ensures.rest c.loop-statements-test.true c.in_ok-statement.ensures c.in_ok-push.ensures.ok

pub returns : goal.returns
returns c = nexts_end c.args.levels classes.sign_semicolon one_statement statements_decided _ _ _ _ _ c.loop-statements.invariant c.eat.ensures.found c.eat.ensures.rest c.loop-statements-test.false

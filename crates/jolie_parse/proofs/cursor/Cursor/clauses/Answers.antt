use Rattle.std.proofs.Common.{◌-◌}
use Rattle.jolie_parse.specs.Grammar as spec
use Rattle.jolie_parse.specs.Grammar.{clauses, execution_clause, port, correlation_set, init_clause, main_clause}
use Rattle.jolie_parse.specs.Syntax.{some_clauses}
use Rattle.jolie_parse.proofs.Lists.{passes, turn_fails, turn_goes, turns_end, turn_shorter}
use Rattle.jolie_parse.proofs.OneToken.{rules_decided}
use Rattle.jolie_parse.proofs.cursor.Cursor.clauses.Goals as goal

pub returns-in_err-clause : goal.returns-in_err-clause
unfolding clauses execution_clause port correlation_set init_clause main_clause
returns-in_err-clause c =
    passes _ c.from_residual.result c.in_err-clause.field-0.0 _ c.from_residual.ensures.1
    (turn_fails c.args.levels spec.clauses (rules_decided.each some_clauses) _ _ _ _ _ _ c.loop-clauses.invariant c.sees.ensures c.loop-clauses-test.true c.in_err-clause.ensures)

pub loop-clauses-smaller : goal.loop-clauses-smaller
unfolding clauses execution_clause port correlation_set init_clause main_clause
loop-clauses-smaller c = turn_shorter c.args.levels spec.clauses (rules_decided.each some_clauses) _ _ _ c.in_ok-clause.ensures

pub loop-clauses-preserved : goal.loop-clauses-preserved
unfolding clauses execution_clause port correlation_set init_clause main_clause
loop-clauses-preserved c =
    turn_goes c.args.levels spec.clauses (rules_decided.each some_clauses) _ _ _ _ _ _ _ c.loop-clauses.invariant c.sees.ensures c.loop-clauses-test.true c.in_ok-clause.ensures c.in_ok-push.ensures.ok

pub returns : goal.returns
unfolding clauses execution_clause port correlation_set init_clause main_clause
returns c = turns_end c.args.levels spec.clauses (rules_decided.each some_clauses) _ _ _ _ c.loop-clauses.invariant c.sees.ensures c.loop-clauses-test.false

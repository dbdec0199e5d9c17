use Rattle.jolie_ast.specs.Printed.{clause_tokens}
use Rattle.jolie_ast.proofs.Spacing.{turn_of}
use Rattle.jolie_ast.proofs.printer.Printer.clauses.Goals as goal

pub loop-clause-preserved : goal.loop-clause-preserved
loop-clause-preserved c =
    turn_of clause_tokens c.args.self.now c.loop-clause.self c.clause.new.self c.args.clauses.now c.loop-clause.clause-index c.clause-item.result c.loop-clause-test.true c.clause-item.is c.loop-clause.invariant (c.in_ok-clause.ensures)

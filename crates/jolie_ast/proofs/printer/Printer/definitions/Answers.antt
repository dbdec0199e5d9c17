use Rattle.jolie_ast.specs.Printed.{definition_tokens}
use Rattle.jolie_ast.proofs.Spacing.{turn_of}
use Rattle.jolie_ast.proofs.printer.Printer.definitions.Goals as goal

pub loop-definition-preserved : goal.loop-definition-preserved
loop-definition-preserved c =
    turn_of definition_tokens c.args.self.now c.loop-definition.self c.definition.new.self c.args.definitions.now c.loop-definition.definition-index c.definition-item.result c.loop-definition-test.true c.definition-item.is c.loop-definition.invariant (c.in_ok-definition.ensures)

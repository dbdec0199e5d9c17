use Rattle.jolie_ast.specs.Printed.{group_tokens}
use Rattle.jolie_ast.proofs.Spacing.{turn_of}
use Rattle.jolie_ast.proofs.printer.Printer.groups.Goals as goal

pub loop-group-preserved : goal.loop-group-preserved
loop-group-preserved c =
    turn_of group_tokens c.args.self.now c.loop-group.self c.group.new.self c.args.groups.now c.loop-group.group-index c.group-item.result c.loop-group-test.true c.group-item.is c.loop-group.invariant (c.in_ok-group.ensures)

use Rattle.jolie_ast.specs.Printed.{alias_tokens}
use Rattle.jolie_ast.proofs.Spacing.{turn_of}
use Rattle.jolie_ast.proofs.printer.Printer.aliases.Goals as goal

pub loop-alias-preserved : goal.loop-alias-preserved
loop-alias-preserved c =
    turn_of alias_tokens c.args.self.now c.loop-alias.self c.alias.new.self c.args.aliases.now c.loop-alias.alias-index c.alias-item.result c.loop-alias-test.true c.alias-item.is c.loop-alias.invariant (c.in_ok-alias.ensures)

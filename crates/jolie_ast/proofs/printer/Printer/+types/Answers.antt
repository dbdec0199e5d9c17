use Rattle.jolie_ast.specs.Printed.{field_tokens}
use Rattle.jolie_ast.proofs.Spacing.{turn_of}
use Rattle.jolie_ast.proofs.printer.Printer.+types.Goals as goal

pub fields-loop-field-preserved : goal.fields-loop-field-preserved
fields-loop-field-preserved t c =
    turn_of field_tokens c.args.self.now c.loop-field.self c.field.new.self c.args.fields.now c.loop-field.field-index c.field-item.result c.loop-field-test.true c.field-item.is c.loop-field.invariant (c.in_ok-field.ensures)

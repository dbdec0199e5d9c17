use Rattle.std.proofs.Common.{◌≡◌, take, flat_map}
use Rattle.jolie_ast.specs.Spacing.{after}
use Rattle.jolie_ast.specs.Printed.{field_tokens}
use Rattle.jolie_ast.proofs.printer.Printer.+types.Given as goal

abbrev pub invariant-fields-loop-field : goal.invariant-fields-loop-field
invariant-fields-loop-field l = l.self ≡ after l.initial.self (flat_map field_tokens (take l.field-index l.fields))

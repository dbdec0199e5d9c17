use Rattle.std.proofs.Common.{◌≡◌, take, flat_map}
use Rattle.jolie_ast.specs.Spacing.{after}
use Rattle.jolie_ast.specs.Printed.{definition_tokens}
use Rattle.jolie_ast.proofs.printer.Printer.definitions.Given as goal

abbrev pub invariant-loop-definition : goal.invariant-loop-definition
invariant-loop-definition l = l.self ≡ after l.initial.self (flat_map definition_tokens (take l.definition-index l.definitions))

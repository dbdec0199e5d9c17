use Rattle.std.proofs.Common.{◌≡◌, take, flat_map}
use Rattle.jolie_ast.specs.Spacing.{after}
use Rattle.jolie_ast.specs.Printed.{group_tokens}
use Rattle.jolie_ast.proofs.printer.Printer.groups.Given as goal

abbrev pub invariant-loop-group : goal.invariant-loop-group
invariant-loop-group l = l.self ≡ after l.initial.self (flat_map group_tokens (take l.group-index l.groups))

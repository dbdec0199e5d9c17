use Rattle.std.proofs.Common.{◌≡◌, take, flat_map}
use Rattle.jolie_ast.specs.Spacing.{after}
use Rattle.jolie_ast.specs.Printed.{fault_tokens}
use Rattle.jolie_ast.proofs.printer.Printer.throws.Given as goal

abbrev pub invariant-loop-fault : goal.invariant-loop-fault
invariant-loop-fault l = l.self ≡ after l.initial.self (flat_map fault_tokens (take l.fault-index l.rest))

use Rattle.std.proofs.Common.{◌≡◌, take, flat_map}
use Rattle.jolie_ast.specs.Spacing.{after}
use Rattle.jolie_ast.specs.Printed.{clause_tokens}
use Rattle.jolie_ast.proofs.printer.Printer.clauses.Given as goal

abbrev pub invariant-loop-clause : goal.invariant-loop-clause
invariant-loop-clause l = l.self ≡ after l.initial.self (flat_map clause_tokens (take l.clause-index l.clauses))

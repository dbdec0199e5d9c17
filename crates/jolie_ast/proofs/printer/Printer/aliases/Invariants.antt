use Rattle.std.proofs.Common.{◌≡◌, take, flat_map}
use Rattle.jolie_ast.specs.Spacing.{after}
use Rattle.jolie_ast.specs.Printed.{alias_tokens}
use Rattle.jolie_ast.proofs.printer.Printer.aliases.Given as goal

abbrev pub invariant-loop-alias : goal.invariant-loop-alias
invariant-loop-alias l = l.self ≡ after l.initial.self (flat_map alias_tokens (take l.alias-index l.aliases))

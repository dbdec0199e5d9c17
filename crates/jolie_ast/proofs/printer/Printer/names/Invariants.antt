use Rattle.std.proofs.Common.{◌≡◌, ◌∷◌, take, flat_map, codes}
use Rattle.jolie_ast.specs.Spacing.{after}
use Rattle.jolie_ast.specs.PrintedExpressions.{name_tokens}
use Rattle.jolie_ast.proofs.printer.Printer.names.Given as goal

abbrev pub invariant-loop-name : goal.invariant-loop-name
invariant-loop-name l = l.self ≡ after l.initial.self (flat_map (λ name. codes "," ∷ name_tokens name) (take l.name-index l.rest))

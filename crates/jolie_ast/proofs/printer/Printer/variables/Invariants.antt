use Rattle.std.proofs.Common.{◌≡◌, ◌∷◌, take, flat_map, codes}
use Rattle.jolie_ast.specs.Spacing.{after}
use Rattle.jolie_ast.specs.Printed.{variable_tokens}
use Rattle.jolie_ast.proofs.printer.Printer.variables.Given as goal

abbrev pub invariant-loop-variable : goal.invariant-loop-variable
invariant-loop-variable l = l.self ≡ after l.initial.self (flat_map (λ v. codes "," ∷ variable_tokens v) (take l.variable-index l.rest))

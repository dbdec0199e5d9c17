use Rattle.std.proofs.Common.{◌≡◌, ◌∷◌, take, flat_map, codes}
use Rattle.jolie_ast.specs.Spacing.{after}
use Rattle.jolie_ast.specs.Printed.{one_way_tokens}
use Rattle.jolie_ast.proofs.printer.Printer.one_ways.Given as goal

abbrev pub invariant-loop-operation : goal.invariant-loop-operation
invariant-loop-operation l = l.self ≡ after l.initial.self (flat_map (λ o. codes "," ∷ one_way_tokens o) (take l.operation-index l.rest))

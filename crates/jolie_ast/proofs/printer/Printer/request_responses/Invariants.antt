use Rattle.std.proofs.Common.{◌≡◌, ◌∷◌, take, flat_map, codes}
use Rattle.jolie_ast.specs.Spacing.{after}
use Rattle.jolie_ast.specs.Printed.{request_response_tokens}
use Rattle.jolie_ast.proofs.printer.Printer.request_responses.Given as goal

abbrev pub invariant-loop-operation : goal.invariant-loop-operation
invariant-loop-operation l = l.self ≡ after l.initial.self (flat_map (λ o. codes "," ∷ request_response_tokens o) (take l.operation-index l.rest))

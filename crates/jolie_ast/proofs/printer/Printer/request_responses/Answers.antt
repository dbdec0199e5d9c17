use Rattle.std.proofs.Common.{◌∷◌, arith, codes, refl}
use Rattle.jolie_ast.specs.Printed.{request_response_tokens}
use Rattle.jolie_ast.proofs.Spacing.{turn_of, token_then, all_separated}
use Rattle.jolie_ast.proofs.printer.Printer.request_responses.Goals as goal

pub loop-operation-preserved : goal.loop-operation-preserved
loop-operation-preserved c =
    turn_of (λ x. codes "," ∷ request_response_tokens x) c.request_response.new.self c.loop-operation.self c.request_response-in-loop-operation.new.self _ c.loop-operation.operation-index c.operation-item.result c.loop-operation-test.true c.operation-item.is c.loop-operation.invariant
    (token_then c.loop-operation.self c.token.new.self c.request_response-in-loop-operation.new.self (codes ",") (request_response_tokens c.operation-item.result) _ (c.in_ok-token.ensures) (c.in_ok-request_response-2.ensures) refl)

pub returns-after-loop-operation : goal.returns-after-loop-operation
returns-after-loop-operation c =
    all_separated (codes ",") request_response_tokens c.args.self.now c.request_response.new.self c.loop-operation.self c.args.operations.now c.first-item.result c.loop-operation.operation-index c.in-len1-up.len_at_least c.first-item.is (c.in_ok-request_response.ensures) c.loop-operation.invariant (omega arith)

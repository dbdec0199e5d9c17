use Rattle.std.proofs.Common.{◌∷◌, arith, codes, refl}
use Rattle.jolie_ast.specs.Printed.{one_way_tokens}
use Rattle.jolie_ast.proofs.Spacing.{turn_of, token_then, all_separated}
use Rattle.jolie_ast.proofs.printer.Printer.one_ways.Goals as goal

pub loop-operation-preserved : goal.loop-operation-preserved
loop-operation-preserved c =
    turn_of (λ x. codes "," ∷ one_way_tokens x) c.one_way.new.self c.loop-operation.self c.one_way-in-loop-operation.new.self _ c.loop-operation.operation-index c.operation-item.result c.loop-operation-test.true c.operation-item.is c.loop-operation.invariant
    (token_then c.loop-operation.self c.token.new.self c.one_way-in-loop-operation.new.self (codes ",") (one_way_tokens c.operation-item.result) _ (c.in_ok-token.ensures) (c.in_ok-one_way-2.ensures) refl)

pub returns-after-loop-operation : goal.returns-after-loop-operation
returns-after-loop-operation c =
    all_separated (codes ",") one_way_tokens c.args.self.now c.one_way.new.self c.loop-operation.self c.args.operations.now c.first-item.result c.loop-operation.operation-index c.in-len1-up.len_at_least c.first-item.is (c.in_ok-one_way.ensures) c.loop-operation.invariant (omega arith)

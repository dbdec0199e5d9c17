use Rattle.std.proofs.Common.{◌∷◌, arith, codes, refl}
use Rattle.jolie_ast.specs.PrintedExpressions.{name_tokens}
use Rattle.jolie_ast.proofs.Spacing.{turn_of, token_then, all_separated}
use Rattle.jolie_ast.proofs.printer.Printer.names.Goals as goal

pub loop-name-preserved : goal.loop-name-preserved
loop-name-preserved c =
    turn_of (λ x. codes "," ∷ name_tokens x) c.name.new.self c.loop-name.self c.name-in-loop-name.new.self _ c.loop-name.name-index c.name-item.result c.loop-name-test.true c.name-item.is c.loop-name.invariant
    (token_then c.loop-name.self c.token.new.self c.name-in-loop-name.new.self (codes ",") (name_tokens c.name-item.result) _ (c.in_ok-token.ensures) (c.in_ok-name-2.ensures) refl)

pub returns-after-loop-name : goal.returns-after-loop-name
returns-after-loop-name c =
    all_separated (codes ",") name_tokens c.args.self.now c.name.new.self c.loop-name.self c.args.names.now c.first-item.result c.loop-name.name-index c.in-len1-up.len_at_least c.first-item.is (c.in_ok-name.ensures) c.loop-name.invariant (omega arith)

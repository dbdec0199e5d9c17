use Rattle.std.proofs.Common.{◌∷◌, arith, codes, refl}
use Rattle.jolie_ast.specs.Printed.{variable_tokens}
use Rattle.jolie_ast.proofs.Spacing.{turn_of, token_then, all_separated}
use Rattle.jolie_ast.proofs.printer.Printer.variables.Goals as goal

pub loop-variable-preserved : goal.loop-variable-preserved
loop-variable-preserved c =
    turn_of (λ x. codes "," ∷ variable_tokens x) c.variable.new.self c.loop-variable.self c.variable-in-loop-variable.new.self _ c.loop-variable.variable-index c.variable-item.result c.loop-variable-test.true c.variable-item.is c.loop-variable.invariant
    (token_then c.loop-variable.self c.token.new.self c.variable-in-loop-variable.new.self (codes ",") (variable_tokens c.variable-item.result) _ (c.in_ok-token.ensures) (c.in_ok-variable-2.ensures) refl)

pub returns-after-loop-variable : goal.returns-after-loop-variable
returns-after-loop-variable c =
    all_separated (codes ",") variable_tokens c.args.self.now c.variable.new.self c.loop-variable.self c.args.variables.now c.first-item.result c.loop-variable.variable-index c.in-len1-up.len_at_least c.first-item.is (c.in_ok-variable.ensures) c.loop-variable.invariant (omega arith)

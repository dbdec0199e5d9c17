use Rattle.std.proofs.Common.{◌∷◌, codes, refl}
use Rattle.jolie_ast.specs.PrintedExpressions.{name_tokens}
use Rattle.jolie_ast.proofs.Spacing.{turn_of, token_then}
use Rattle.jolie_ast.proofs.printer.Printer.further_fields.Goals as goal

pub loop-field-preserved : goal.loop-field-preserved
loop-field-preserved c =
    turn_of (λ name. codes "." ∷ name_tokens name) c.args.self.now c.loop-field.self c.name.new.self c.args.fields.now c.loop-field.field-index c.field-item.result c.loop-field-test.true c.field-item.is c.loop-field.invariant
    (token_then c.loop-field.self c.token.new.self c.name.new.self (codes ".") (name_tokens c.field-item.result) _ (c.in_ok-token.ensures) (c.in_ok-name.ensures) refl)

use Rattle.jolie_parse.specs.ClassNames as classes
use Rattle.jolie_parse.specs.Grammar.{expr}
use Rattle.jolie_parse.specs.Syntax.{behind}
use Rattle.jolie_parse.proofs.Lists.{passes, optional_none, optional_stops, optional_read}
use Rattle.jolie_parse.proofs.cursor.Cursor.thrown_value.Goals as goal

pub returns-then-not-sees_sign : goal.returns-then-not-sees_sign
returns-then-not-sees_sign c = optional_none c.args.levels (behind classes.sign_comma expr) c.args.self.now _ c.sees_sign.ensures c.if-not-sees_sign.true

pub returns-in_err-next_expression : goal.returns-in_err-next_expression
returns-in_err-next_expression c =
    passes _ c.from_residual.result c.in_err-next_expression.field-0.0 _ c.from_residual.ensures.1
    (optional_stops c.args.levels (behind classes.sign_comma expr) c.args.self.now _ _ _ c.sees_sign.ensures c.if-not-sees_sign.false c.in_err-next_expression.ensures)

pub returns : goal.returns
returns c = optional_read c.args.levels (behind classes.sign_comma expr) c.args.self.now _ _ _ c.sees_sign.ensures c.if-not-sees_sign.false c.in_ok-next_expression.ensures

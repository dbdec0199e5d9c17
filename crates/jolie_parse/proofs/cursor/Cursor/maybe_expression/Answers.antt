use Rattle.jolie_parse.specs.Grammar.{id, word, index, step, path_parts, path, whole_number, long_number, quoted_text, truth, path_value, size, defined_test, cast, grouped, literal, primary, prefixed_operand, unary, factor, product, term, sum, comparand, comparison, conjunction, expr}
use Rattle.jolie_parse.proofs.Lists.{passes, optional_none, optional_stops, optional_read}
use Rattle.jolie_parse.proofs.cursor.Cursor.maybe_expression.Goals as goal

pub returns-then-not-sees : goal.returns-then-not-sees
unfolding id word index step path_parts path whole_number long_number quoted_text truth path_value size defined_test cast grouped literal primary prefixed_operand unary factor product term sum comparand comparison conjunction expr
returns-then-not-sees c = optional_none c.args.levels expr c.args.self.now _ c.sees.ensures c.if-not-sees.true

pub returns-in_err-expression : goal.returns-in_err-expression
unfolding id word index step path_parts path whole_number long_number quoted_text truth path_value size defined_test cast grouped literal primary prefixed_operand unary factor product term sum comparand comparison conjunction expr
returns-in_err-expression c =
    passes _ c.from_residual.result c.in_err-expression.field-0.0 _ c.from_residual.ensures.1
    (optional_stops c.args.levels expr c.args.self.now _ _ _ c.sees.ensures c.if-not-sees.false c.in_err-expression.ensures)

pub returns : goal.returns
unfolding id word index step path_parts path whole_number long_number quoted_text truth path_value size defined_test cast grouped literal primary prefixed_operand unary factor product term sum comparand comparison conjunction expr
returns c = optional_read c.args.levels expr c.args.self.now _ _ _ c.sees.ensures c.if-not-sees.false c.in_ok-expression.ensures

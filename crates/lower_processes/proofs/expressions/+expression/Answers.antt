use Rattle.std.proofs.Common.{rules, map, arith, ◌∙◌}
use Rattle.behaviour_tree.specs.View.{step_view}
use Rattle.lower_processes.proofs.LoweredExpressions.{factor_is, term_is, member_is, steps_read, bare_step, indexed_step, int_lowered, long_lowered, text_lowered, truth_lowered, path_form_lowered, size_lowered, defined_lowered, cast_lowered, literal_lowered, minus_lowered, not_lowered, product_lowered, sum_lowered, compare_lowered, and_lowered, or_lowered}
use Rattle.lower_processes.proofs.SeenExpressions.{value_seen, path_form_seen, count_seen, defined_seen, literal_seen, or_seen, and_seen, compare_seen, sum_seen, product_seen, minus_seen, not_seen, cast_seen, member_seen, mul_part_seen, sum_part_seen, path_seen, bare_step_seen, indexed_step_seen}
use Rattle.lower_processes.proofs.expressions.+expression.Goals as goal

pub lowered_form-returns-in-Int : goal.lowered_form-returns-in-Int
lowered_form-returns-in-Int t c = grind (arith, value_seen, int_lowered)

pub lowered_form-returns-in-Long : goal.lowered_form-returns-in-Long
lowered_form-returns-in-Long t c = grind (arith, value_seen, long_lowered)

pub lowered_form-returns-in_ok-copied-in-Str : goal.lowered_form-returns-in_ok-copied-in-Str
lowered_form-returns-in_ok-copied-in-Str t c = grind (arith, value_seen, text_lowered)

pub lowered_form-returns-in-Bool : goal.lowered_form-returns-in-Bool
lowered_form-returns-in-Bool t c = grind (arith, value_seen, truth_lowered)

pub lowered_form-returns-in_ok-lowered_path-in-Path : goal.lowered_form-returns-in_ok-lowered_path-in-Path
lowered_form-returns-in_ok-lowered_path-in-Path t c = grind (arith, path_form_seen, path_form_lowered)

pub lowered_form-returns-in_ok-lowered_path-in-Size : goal.lowered_form-returns-in_ok-lowered_path-in-Size
lowered_form-returns-in_ok-lowered_path-in-Size t c = grind (arith, count_seen, size_lowered)

pub lowered_form-returns-in_ok-lowered_path-in-IsDefined : goal.lowered_form-returns-in_ok-lowered_path-in-IsDefined
lowered_form-returns-in_ok-lowered_path-in-IsDefined t c = grind (arith, defined_seen, defined_lowered)

pub lowered_form-returns-in_ok-lowered_operand-in-Cast : goal.lowered_form-returns-in_ok-lowered_operand-in-Cast
lowered_form-returns-in_ok-lowered_operand-in-Cast t c = grind (arith, cast_seen, cast_lowered)

pub lowered_form-returns-in_ok-lowered_members-in-Literal : goal.lowered_form-returns-in_ok-lowered_members-in-Literal
lowered_form-returns-in_ok-lowered_members-in-Literal t c = grind (arith, literal_seen, literal_lowered)

pub lowered_form-returns-in_ok-lowered_operand-in-Minus : goal.lowered_form-returns-in_ok-lowered_operand-in-Minus
lowered_form-returns-in_ok-lowered_operand-in-Minus t c = grind (arith, minus_seen, minus_lowered)

pub lowered_form-returns-in_ok-lowered_operand-in-Not : goal.lowered_form-returns-in_ok-lowered_operand-in-Not
lowered_form-returns-in_ok-lowered_operand-in-Not t c = grind (arith, not_seen, not_lowered)

pub lowered_form-returns-in_ok-lowered_factors-in-Product : goal.lowered_form-returns-in_ok-lowered_factors-in-Product
lowered_form-returns-in_ok-lowered_factors-in-Product t c = grind (arith, product_seen, product_lowered)

pub lowered_form-returns-in_ok-lowered_terms-in-Sum : goal.lowered_form-returns-in_ok-lowered_terms-in-Sum
lowered_form-returns-in_ok-lowered_terms-in-Sum t c = grind (arith, sum_seen, sum_lowered)

pub lowered_form-returns-in_ok-lowered_operand-in-Compare-2 : goal.lowered_form-returns-in_ok-lowered_operand-in-Compare-2
lowered_form-returns-in_ok-lowered_operand-in-Compare-2 t c = grind (arith, compare_seen, compare_lowered)

pub lowered_form-returns-in_ok-lowered_exprs-in-And : goal.lowered_form-returns-in_ok-lowered_exprs-in-And
lowered_form-returns-in_ok-lowered_exprs-in-And t c = grind (arith, and_seen, and_lowered)

pub lowered_form-returns-in_ok-lowered_exprs-in-Or : goal.lowered_form-returns-in_ok-lowered_exprs-in-Or
lowered_form-returns-in_ok-lowered_exprs-in-Or t c = grind (arith, or_seen, or_lowered)

pub lowered_member-returns : goal.lowered_member-returns
lowered_member-returns t c = grind (arith, member_seen, member_is)

pub lowered_factor-returns : goal.lowered_factor-returns
lowered_factor-returns t c = grind (arith, mul_part_seen, factor_is)

pub lowered_term-returns : goal.lowered_term-returns
lowered_term-returns t c = grind (arith, sum_part_seen, term_is)

pub lowered_path-returns : goal.lowered_path-returns
lowered_path-returns t c =
    path_seen c.loop-step.steps
    ∙ steps_read c.args.path.now (map step_view c.loop-step.steps.items) c.as_slice-step-items.result.now c.loop-step.step-index c.loop-step.invariant (search rules) (search rules)

pub lowered_place-returns-in-None : goal.lowered_place-returns-in-None
lowered_place-returns-in-None t c = grind (arith, bare_step_seen, bare_step)

pub lowered_place-returns-in_ok-lowered_expr-in-Some : goal.lowered_place-returns-in_ok-lowered_expr-in-Some
lowered_place-returns-in_ok-lowered_expr-in-Some t c = grind (arith, indexed_step_seen, indexed_step c.args.step.now c.in-Some.index c.in-Some.is)

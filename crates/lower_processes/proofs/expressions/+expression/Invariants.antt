use Rattle.std.proofs.Common.{◌≡◌, ◌∷◌, map, take}
use Rattle.behaviour_tree.specs.View.{expr_view, member_view, mul_part_view, step_view, sum_part_view}
use Rattle.jolie_ast.specs.declared.expression.Path.{out-Path}
use Rattle.lower_processes.specs.Expressions.{lowered_expr, lowered_factor, lowered_member, lowered_place, lowered_term}
use Rattle.lower_processes.proofs.expressions.+expression.Given as goal

abbrev pub invariant-lowered_exprs-loop-expr : goal.invariant-lowered_exprs-loop-expr
invariant-lowered_exprs-loop-expr l = map expr_view l.lowered.items ≡ map lowered_expr (take l.expr-index l.exprs)

abbrev pub invariant-lowered_factors-loop-factor : goal.invariant-lowered_factors-loop-factor
invariant-lowered_factors-loop-factor l = map mul_part_view l.lowered.items ≡ map lowered_factor (take l.factor-index l.factors)

abbrev pub invariant-lowered_terms-loop-term : goal.invariant-lowered_terms-loop-term
invariant-lowered_terms-loop-term l = map sum_part_view l.lowered.items ≡ map lowered_term (take l.term-index l.terms)

abbrev pub invariant-lowered_members-loop-member : goal.invariant-lowered_members-loop-member
invariant-lowered_members-loop-member l = map member_view l.lowered.items ≡ map lowered_member (take l.member-index l.members)

abbrev pub invariant-lowered_path-loop-step : goal.invariant-lowered_path-loop-step
invariant-lowered_path-loop-step l = map step_view l.steps.items ≡ lowered_place (out-Path l.path).first ∷ map lowered_place (take l.step-index l.step-items)

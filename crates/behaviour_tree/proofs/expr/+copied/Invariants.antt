use Rattle.std.proofs.Common.{◌≡◌, map, take}
use Rattle.behaviour_tree.specs.View.{expr_view, member_view, mul_part_view, step_view, sum_part_view}
use Rattle.behaviour_tree.proofs.expr.+copied.Given as goal

abbrev pub invariant-PathExpr::copied-loop-step : goal.invariant-PathExpr::copied-loop-step
invariant-PathExpr::copied-loop-step l = map step_view l.steps.items ≡ map step_view (take l.step-index l.step-items)

abbrev pub invariant-copied_exprs-loop-expr : goal.invariant-copied_exprs-loop-expr
invariant-copied_exprs-loop-expr l = map expr_view l.copies.items ≡ map expr_view (take l.expr-index l.expr-items)

abbrev pub invariant-copied_members-loop-member : goal.invariant-copied_members-loop-member
invariant-copied_members-loop-member l = map member_view l.copies.items ≡ map member_view (take l.member-index l.member-items)

abbrev pub invariant-copied_sum_parts-loop-part : goal.invariant-copied_sum_parts-loop-part
invariant-copied_sum_parts-loop-part l = map sum_part_view l.copies.items ≡ map sum_part_view (take l.part-index l.part-items)

abbrev pub invariant-copied_mul_parts-loop-part : goal.invariant-copied_mul_parts-loop-part
invariant-copied_mul_parts-loop-part l = map mul_part_view l.copies.items ≡ map mul_part_view (take l.part-index l.part-items)

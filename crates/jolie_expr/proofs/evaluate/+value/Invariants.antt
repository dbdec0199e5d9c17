use Rattle.std.proofs.Common.{◌≡◌, ◌++◌, map, drop}
use Rattle.behaviour_tree.specs.Values.{any_from, all_from, literal_from, sum_from, product_from, steps_of}
use Rattle.behaviour_tree.specs.View.{expr_view, exps_of, member_list_of, member_view, path_of, step_view, sum_part_view, sum_parts_of, mul_part_view, mul_parts_of}
use Rattle.jolie_trees.specs.Trees.{void_tree}
use Rattle.std.specs.Prelude.{Some, option_map}
use Rattle.std.specs.Option.{option_copied}
use Rattle.jolie_expr.specs.Steps.{node_in}
use Rattle.jolie_expr.proofs.Found.{node_along}
use Rattle.jolie_expr.proofs.evaluate.+value.Given as goal

abbrev pub invariant-literal-loop-member : goal.invariant-literal-loop-member
invariant-literal-loop-member l = literal_from l.store (Some l.literal) (member_list_of (map member_view (drop l.member-index l.members))) ≡ literal_from l.store (Some void_tree) (member_list_of (map member_view l.members))

abbrev pub invariant-any_from-loop-e : goal.invariant-any_from-loop-e
invariant-any_from-loop-e l = any_from l.store (exps_of (map expr_view (drop l.e-index l.list))) ≡ any_from l.store (exps_of (map expr_view l.list))

abbrev pub invariant-all_from-loop-e : goal.invariant-all_from-loop-e
invariant-all_from-loop-e l = all_from l.store (exps_of (map expr_view (drop l.e-index l.list))) ≡ all_from l.store (exps_of (map expr_view l.list))

abbrev pub invariant-sum_from-loop-part : goal.invariant-sum_from-loop-part
invariant-sum_from-loop-part l = sum_from l.store (Some l.sum) (sum_parts_of (map sum_part_view (drop l.part-index l.rest))) ≡ sum_from l.store (Some l.fn.first) (sum_parts_of (map sum_part_view l.rest))

abbrev pub invariant-product_from-loop-part : goal.invariant-product_from-loop-part
invariant-product_from-loop-part l = product_from l.store (Some l.product) (mul_parts_of (map mul_part_view (drop l.part-index l.rest))) ≡ product_from l.store (Some l.fn.first) (mul_parts_of (map mul_part_view l.rest))

abbrev pub invariant-steps_of-loop-step : goal.invariant-steps_of-loop-step
invariant-steps_of-loop-step l =
    option_map (λ ss. l.steps ++ ss) (steps_of l.store (path_of (map step_view (drop l.step-index l.step-items)))) ≡ steps_of l.store (path_of (map step_view l.step-items))

abbrev pub invariant-found-loop-step : goal.invariant-found-loop-step
invariant-found-loop-step l =
    node_along (option_copied l.node) (steps_of l.store (path_of (map step_view (drop l.step-index l.step-items)))) ≡ node_in l.store (path_of (map step_view l.step-items))

use Rattle.std.proofs.Common.{rules, ◌≡◌, map, Some, Err, sym, ap, subst, ◌∙◌}
use Rattle.std.proofs.lemmas.Result.{err_from_is_err_and}
use Rattle.std.specs.Prelude.{ok_or}
use Rattle.jolie_expr.specs.declared.eval_error.EvalError.TheVariants.{ExprFault}
use Rattle.behaviour_tree.specs.Operators.{sum_of_two, product_of_two}
use Rattle.behaviour_tree.specs.Data.{sum, product}
use Rattle.behaviour_tree.specs.Values.{alone, value, root_in, sum_from, product_from, with_member}
use Rattle.behaviour_tree.specs.View.{expr_view, sum_part_view, sum_parts_of, mul_part_view, mul_parts_of}
use Rattle.behaviour_tree.specs.declared.expr.Expr as expr
use Rattle.behaviour_tree.specs.declared.expr.Member.{out-Member}
use Rattle.behaviour_tree.specs.declared.expr.MulPart.{out-MulPart}
use Rattle.behaviour_tree.specs.declared.expr.SumPart.{out-SumPart}
use Rattle.jolie_expr.specs.Answers.{Answers}
use Rattle.jolie_expr.proofs.Faults.{map_passes, sum_passes, product_passes, fault_of-none}
use Rattle.jolie_expr.proofs.Operands.{operand_stops, operator_stops, goes_on, members_behind, sum_behind, product_behind, members_behind-none, sum_behind-none, product_behind-none, literal_from-taken, sum_from-taken, product_from-taken}
use Rattle.jolie_expr.proofs.evaluate.+value.Goals as goal

pub literal-returns-in_err-value : goal.literal-returns-in_err-value
literal-returns-in_err-value t c =
    let store = c.args.store.now in
    let xs = c.args.members.now in
    let i = c.loop-member.member-index in
    operand_stops (members_behind store xs i) (λ t v. Some (with_member (out-Member c.member-item.result).name v t)) c.loop-member.literal _ _ c.from_residual.result c.in_err-value.field-0.0
    (sym (literal_from-taken store xs i c.member-item.result (Some c.loop-member.literal) c.loop-member-test.true c.member-item.is) ∙ c.loop-member.invariant)
    (members_behind-none store xs i) c.from_residual.ensures.1 c.in_err-value.ensures

pub literal-loop-member-preserved : goal.literal-loop-member-preserved
literal-loop-member-preserved t c =
    let store = c.args.store.now in
    let xs = c.args.members.now in
    let i = c.loop-member.member-index in
    goes_on (members_behind store xs i) (λ t v. Some (with_member (out-Member c.member-item.result).name v t)) c.loop-member.literal c.in_ok-value.value c.put_member.new.literal _ _
    (sym (literal_from-taken store xs i c.member-item.result (Some c.loop-member.literal) c.loop-member-test.true c.member-item.is) ∙ c.loop-member.invariant)
    c.in_ok-value.ensures (ap Some (sym c.in_ok-put_member.ensures))

pub sum_from-returns-in_err-operand : goal.sum_from-returns-in_err-operand
sum_from-returns-in_err-operand t c =
    let store = c.args.store.now in
    let xs = c.args.rest.now in
    let i = c.loop-part.part-index in
    operand_stops (sum_behind store xs i) (sum_of_two (out-SumPart c.part-item.result).op) c.loop-part.sum _ _ c.from_residual.result c.in_err-operand.field-0.0
    (sym (sum_from-taken store xs i c.part-item.result (Some c.loop-part.sum) c.loop-part-test.true c.part-item.is) ∙ c.loop-part.invariant)
    (sum_behind-none store xs i) c.from_residual.ensures.1 c.in_err-operand.ensures

pub sum_from-returns-in_err-sum : goal.sum_from-returns-in_err-sum
sum_from-returns-in_err-sum t c =
    let store = c.args.store.now in
    let xs = c.args.rest.now in
    let i = c.loop-part.part-index in
    operator_stops (sum_behind store xs i) (sum_of_two (out-SumPart c.part-item.result).op) c.loop-part.sum c.in_ok-operand.operand _ _ c.from_residual-in_err-sum.result c.in_err-sum.field-0.0
    (sym (sum_from-taken store xs i c.part-item.result (Some c.loop-part.sum) c.loop-part-test.true c.part-item.is) ∙ c.loop-part.invariant)
    (sum_behind-none store xs i) c.in_ok-operand.ensures c.from_residual-in_err-sum.ensures.1 c.in_err-sum.ensures

pub sum_from-loop-part-preserved : goal.sum_from-loop-part-preserved
sum_from-loop-part-preserved t c =
    let store = c.args.store.now in
    let xs = c.args.rest.now in
    let i = c.loop-part.part-index in
    goes_on (sum_behind store xs i) (sum_of_two (out-SumPart c.part-item.result).op) c.loop-part.sum c.in_ok-operand.operand c.in_ok-sum.sum _ _
    (sym (sum_from-taken store xs i c.part-item.result (Some c.loop-part.sum) c.loop-part-test.true c.part-item.is) ∙ c.loop-part.invariant)
    c.in_ok-operand.ensures c.in_ok-sum.ensures

pub product_from-returns-in_err-operand : goal.product_from-returns-in_err-operand
product_from-returns-in_err-operand t c =
    let store = c.args.store.now in
    let xs = c.args.rest.now in
    let i = c.loop-part.part-index in
    operand_stops (product_behind store xs i) (product_of_two (out-MulPart c.part-item.result).op) c.loop-part.product _ _ c.from_residual.result c.in_err-operand.field-0.0
    (sym (product_from-taken store xs i c.part-item.result (Some c.loop-part.product) c.loop-part-test.true c.part-item.is) ∙ c.loop-part.invariant)
    (product_behind-none store xs i) c.from_residual.ensures.1 c.in_err-operand.ensures

pub product_from-returns-in_err-product : goal.product_from-returns-in_err-product
product_from-returns-in_err-product t c =
    let store = c.args.store.now in
    let xs = c.args.rest.now in
    let i = c.loop-part.part-index in
    operator_stops (product_behind store xs i) (product_of_two (out-MulPart c.part-item.result).op) c.loop-part.product c.in_ok-operand.operand _ _ c.from_residual-in_err-product.result c.in_err-product.field-0.0
    (sym (product_from-taken store xs i c.part-item.result (Some c.loop-part.product) c.loop-part-test.true c.part-item.is) ∙ c.loop-part.invariant)
    (product_behind-none store xs i) c.in_ok-operand.ensures c.from_residual-in_err-product.ensures.1
    (fault_of-none _ c.in_err-product.field-0.0 (ap (λ o. ok_or o ExprFault) (sym c.product_of_two.ensures) ∙ sym c.in_err-product.ensures.value))

pub product_from-loop-part-preserved : goal.product_from-loop-part-preserved
product_from-loop-part-preserved t c =
    let store = c.args.store.now in
    let xs = c.args.rest.now in
    let i = c.loop-part.part-index in
    goes_on (product_behind store xs i) (product_of_two (out-MulPart c.part-item.result).op) c.loop-part.product c.in_ok-operand.operand c.in_ok-product.product _ _
    (sym (product_from-taken store xs i c.part-item.result (Some c.loop-part.product) c.loop-part-test.true c.part-item.is) ∙ c.loop-part.invariant)
    c.in_ok-operand.ensures (sym c.product_of_two.ensures ∙ c.in_ok-product.ensures.ok_part)

pub value-returns-in_err-first-in-Sum : goal.value-returns-in_err-first-in-Sum
value-returns-in_err-first-in-Sum t c =
    let store = c.args.store.now in
    let e = c.in_err-first-in-Sum.field-0.0 in
    let first = c.deref-in-Sum.result.now in
    let rest = sum_parts_of (map sum_part_view c.in-Sum.rest.items) in
    let inner : c.in-Sum.first.value ≡ first = search rules in
    let seen : expr_view c.args.e.now ≡ sum (expr_view c.in-Sum.first.value) rest = search (rules, expr.the_lemmas) in
    let operand = root_in (value store (expr_view first)) in
    let p = err_from_is_err_and c.from_residual-in_err-first-in-Sum.result c.from_residual-in_err-first-in-Sum.ensures.1 in
    rw (p.1, p.2)
    (subst (λ x. Answers (value store x) (Err e)) (sym (seen ∙ ap (λ x. sum (expr_view x) rest) inner))
    (map_passes alone (sum_from store operand rest) e (sum_passes store operand rest e c.in_err-first-in-Sum.ensures)))

pub value-returns-in_err-first-in-Product : goal.value-returns-in_err-first-in-Product
value-returns-in_err-first-in-Product t c =
    let store = c.args.store.now in
    let e = c.in_err-first-in-Product.field-0.0 in
    let first = c.deref-in-Product.result.now in
    let rest = mul_parts_of (map mul_part_view c.in-Product.rest.items) in
    let inner : c.in-Product.first.value ≡ first = search rules in
    let seen : expr_view c.args.e.now ≡ product (expr_view c.in-Product.first.value) rest = search (rules, expr.the_lemmas) in
    let operand = root_in (value store (expr_view first)) in
    let p = err_from_is_err_and c.from_residual-in_err-first-in-Product.result c.from_residual-in_err-first-in-Product.ensures.1 in
    rw (p.1, p.2)
    (subst (λ x. Answers (value store x) (Err e)) (sym (seen ∙ ap (λ x. product (expr_view x) rest) inner))
    (map_passes alone (product_from store operand rest) e (product_passes store operand rest e c.in_err-first-in-Product.ensures)))

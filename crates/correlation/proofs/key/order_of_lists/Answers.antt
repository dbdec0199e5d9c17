use Rattle.std.proofs.Common.{rules, ◌≡◌, arith, sym, ap, ◌∙◌, length}
use Rattle.correlation.specs.Order.{key_order}
use Rattle.correlation.proofs.Orders.{ended}
use Rattle.correlation.proofs.key.order_of_lists.Goals as goal
use Rattle.correlation.proofs.key.order_of_lists.Goals.{then-loop-place-test+else-place-right, else-loop-place-test}

pub returns : goal.returns
returns c =
    let i = c.loop-place.invariant in
    let l = c.args.left.now in
    let r = c.args.right.now in
    let at = c.loop-place.place in
    elim c.loop-place-test.branch [
      | then-loop-place-test+else-place-right w ↦ c.cmp.ensures ∙ sym (i.same ∙ ended at l r i.in_left i.in_right (λ a b. grind (arith, w.if-place-right)))
      | else-loop-place-test w ↦ c.cmp.ensures ∙ sym (i.same ∙ ended at l r i.in_left i.in_right (λ a b. grind (arith, w.loop-place-test)))
    ]

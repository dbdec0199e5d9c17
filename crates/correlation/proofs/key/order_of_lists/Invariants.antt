use Rattle.std.proofs.Common.{◌≡◌, ◌≤◌, ◌-◌, drop, length}
use Rattle.correlation.specs.Order.{key_order}
use Rattle.correlation.proofs.key.order_of_lists.Given as goal

abbrev pub invariant-loop-place : goal.invariant-loop-place
invariant-loop-place l = record {
  same : key_order l.fn.left l.fn.right ≡ key_order (drop l.place l.left) (drop l.place l.right);
  in_left : l.place ≤ length l.left;
  in_right : l.place ≤ length l.right;
}

abbrev pub decreases-loop-place : goal.decreases-loop-place
decreases-loop-place l = length l.left - l.place

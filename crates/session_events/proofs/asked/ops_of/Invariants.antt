use Rattle.std.proofs.Common.{map, ◌≡◌, ◌++◌}
use Rattle.behaviour_tree.specs.View.{branch_view, branches_of}
use Rattle.behaviour_tree.specs.FormedBehaviours.{branch_operations}
use Rattle.session_events.proofs.Branches.{rest_from}
use Rattle.session_events.proofs.asked.ops_of.Given as goal

abbrev pub invariant-loop-branch : goal.invariant-loop-branch
invariant-loop-branch l = l.ops ++ branch_operations (rest_from l.list l.branch-index) ≡ branch_operations (branches_of (map branch_view l.list))

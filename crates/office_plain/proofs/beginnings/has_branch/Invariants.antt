use Rattle.std.proofs.Common.{◌≡◌, drop, map}
use Rattle.behaviour_tree.specs.FormedBehaviours.{branch_operations}
use Rattle.behaviour_tree.specs.Operations.{is_among}
use Rattle.behaviour_tree.specs.View.{branch_view, branches_of}
use Rattle.office_plain.proofs.beginnings.has_branch.Given as goal

abbrev pub invariant-loop-branch : goal.invariant-loop-branch
invariant-loop-branch l =
    is_among (branch_operations (branches_of (map branch_view (drop l.branch-index l.branches)))) l.op
    ≡ is_among (branch_operations (branches_of (map branch_view l.branches))) l.op

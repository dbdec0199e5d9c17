use Rattle.std.proofs.Common.{◌≡◌, map, take}
use Rattle.behaviour_tree.specs.View.{behaviour_view, branch_view}
use Rattle.session_calculus.specs.Tables.{filled}
use Rattle.handler_table.specs.Filled.{filled_branch, former_of}
use Rattle.handler_table.proofs.fill.+filled.Given as goal

abbrev pub invariant-filled_all-loop-body : goal.invariant-filled_all-loop-body
invariant-filled_all-loop-body l = map behaviour_view l.copies.items ≡ map (filled (former_of l.former)) (map behaviour_view (take l.body-index l.body-items))

abbrev pub invariant-filled_branches-loop-branch : goal.invariant-filled_branches-loop-branch
invariant-filled_branches-loop-branch l = map branch_view l.copies.items ≡ map (filled_branch (former_of l.former)) (map branch_view (take l.branch-index l.branch-items))

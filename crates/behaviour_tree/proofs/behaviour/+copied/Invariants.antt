use Rattle.std.proofs.Common.{◌≡◌, map, take}
use Rattle.behaviour_tree.specs.View.{behaviour_view, branch_view, handler_view}
use Rattle.behaviour_tree.proofs.behaviour.+copied.Given as goal

abbrev pub invariant-copied_behaviours-loop-body : goal.invariant-copied_behaviours-loop-body
invariant-copied_behaviours-loop-body l = map behaviour_view l.copies.items ≡ map behaviour_view (take l.body-index l.body-items)

abbrev pub invariant-copied_branches-loop-branch : goal.invariant-copied_branches-loop-branch
invariant-copied_branches-loop-branch l = map branch_view l.copies.items ≡ map branch_view (take l.branch-index l.branch-items)

abbrev pub invariant-Handlers::copied-loop-handler : goal.invariant-Handlers::copied-loop-handler
invariant-Handlers::copied-loop-handler l = map handler_view l.list.items ≡ map handler_view (take l.handler-index l.handler-items)

use Rattle.std.proofs.Common.{◌≡◌, map, take}
use Rattle.behaviour_tree.specs.View.{behaviour_view, branch_view, branches_of, handler_view, handlers_of, procs_of}
use Rattle.session_calculus.specs.Tables.{filled_all, filled_branches}
use Rattle.handler_table.specs.Filled.{former_of}
use Rattle.handler_table.specs.Sizes as spec
use Rattle.handler_table.proofs.size.+size.Given as goal

abbrev pub invariant-size_of_all-loop-body : goal.invariant-size_of_all-loop-body
invariant-size_of_all-loop-body l = l.size ≡ spec.size_of_all (filled_all (former_of l.former.body) (procs_of (map behaviour_view (take l.body-index l.body-items))))

abbrev pub invariant-size_of_branches-loop-branch : goal.invariant-size_of_branches-loop-branch
invariant-size_of_branches-loop-branch l = l.size ≡ spec.size_of_branches (filled_branches (former_of l.former.body) (branches_of (map branch_view (take l.branch-index l.branch-items))))

abbrev pub invariant-size_of_handlers-loop-handler : goal.invariant-size_of_handlers-loop-handler
invariant-size_of_handlers-loop-handler l = l.size ≡ spec.size_of_handlers (handlers_of (map handler_view (take l.handler-index l.handler-items)))

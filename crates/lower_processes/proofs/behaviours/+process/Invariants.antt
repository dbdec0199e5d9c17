use Rattle.std.proofs.Common.{◌≡◌, map, take}
use Rattle.behaviour_tree.specs.View.{behaviour_view, branch_view, handler_view}
use Rattle.lower_processes.specs.Behaviours.{lowered_branch, lowered_handler, lowered_process}
use Rattle.lower_processes.specs.Numbers.{numbering_of}
use Rattle.lower_processes.proofs.behaviours.+process.Given as goal

abbrev pub invariant-lowered_processes-loop-process : goal.invariant-lowered_processes-loop-process
invariant-lowered_processes-loop-process l = map behaviour_view l.lowered.items ≡ map (lowered_process (numbering_of l.numbers l.names)) (take l.process-index l.processes)

abbrev pub invariant-lowered_branches-loop-branch : goal.invariant-lowered_branches-loop-branch
invariant-lowered_branches-loop-branch l = map branch_view l.lowered.items ≡ map (lowered_branch (numbering_of l.numbers l.names)) (take l.branch-index l.branches)

abbrev pub invariant-lowered_handlers-loop-handler : goal.invariant-lowered_handlers-loop-handler
invariant-lowered_handlers-loop-handler l = map handler_view l.list.items ≡ map (lowered_handler (numbering_of l.numbers l.names)) (take l.handler-index l.handlers)

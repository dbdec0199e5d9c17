use Rattle.std.proofs.Common.{◌≡◌, flat_map, take}
use Rattle.service_check.specs.Mentioned.{branch_texts, handler_texts, process_texts}
use Rattle.check_base.specs.Repeated.{with_texts}
use Rattle.service_check.proofs.mentioned.+process.Given as goal

abbrev pub invariant-processes_names-loop-process : goal.invariant-processes_names-loop-process
invariant-processes_names-loop-process l = l.names ≡ with_texts l.initial.names (flat_map process_texts (take l.process-index l.processes))

abbrev pub invariant-branches_names-loop-branch : goal.invariant-branches_names-loop-branch
invariant-branches_names-loop-branch l = l.names ≡ with_texts l.initial.names (flat_map branch_texts (take l.branch-index l.branches))

abbrev pub invariant-handlers_names-loop-handler : goal.invariant-handlers_names-loop-handler
invariant-handlers_names-loop-handler l = l.names ≡ with_texts l.initial.names (flat_map handler_texts (take l.handler-index l.handlers))

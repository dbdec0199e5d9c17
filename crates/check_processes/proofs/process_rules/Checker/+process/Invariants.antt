use Rattle.std.proofs.Common.{◌≡◌, take}
use Rattle.check_base.specs.Least.{joined}
use Rattle.check_processes.specs.ProcessParts.{bodies_refused, branches_refused, in_handler, processes_refused}
use Rattle.check_processes.proofs.process_rules.Checker.+process.Given as goal

abbrev pub invariant-processes_refused-loop-process : goal.invariant-processes_refused-loop-process
invariant-processes_refused-loop-process l = l.least ≡ joined l.initial.least (processes_refused l.self.surroundings.now (take l.process-index l.processes) (in_handler l.self.place))

abbrev pub invariant-branches_refused-loop-branch : goal.invariant-branches_refused-loop-branch
invariant-branches_refused-loop-branch l = l.least ≡ joined l.initial.least (branches_refused l.self.surroundings.now (take l.branch-index l.branches) (in_handler l.self.place))

abbrev pub invariant-bodies_refused-loop-handler : goal.invariant-bodies_refused-loop-handler
invariant-bodies_refused-loop-handler l = l.least ≡ joined l.initial.least (bodies_refused l.self.surroundings.now (take l.handler-index l.handlers))

use Rattle.std.proofs.Common.{◌≡◌, take, map}
use Rattle.check_processes.specs.ProcessParts.{branch_operation}
use Rattle.check_processes.proofs.process_part_rules.branch_operations.Given as goal

abbrev pub invariant-loop-branch : goal.invariant-loop-branch
invariant-loop-branch l = l.operations.items ≡ map branch_operation (take l.branch-index l.branches)

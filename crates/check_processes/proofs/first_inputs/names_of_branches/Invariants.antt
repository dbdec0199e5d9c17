use Rattle.std.proofs.Common.{◌≡◌, map, take}
use Rattle.jolie_ast.specs.declared.process.Branch.{Branch}
use Rattle.check_processes.specs.ProcessParts.{branch_operation}
use Rattle.check_processes.proofs.first_inputs.names_of_branches.Given as goal

abbrev pub invariant-loop-branch : goal.invariant-loop-branch
invariant-loop-branch l = l.names ≡ map (λ (b : Branch). (branch_operation b).text) (take l.branch-index l.branches)

use Rattle.std.proofs.Common.{[], ap, sym, ◌∙◌, arith, map, rules}
use Rattle.std.proofs.lemmas.List.{take_all}
use Rattle.jolie_ast.specs.declared.name.Name.{Name}
use Rattle.jolie_ast.specs.declared.process.Branch.{Branch}
use Rattle.check_processes.specs.ProcessParts.{branch_operation}
use Rattle.check_base.proofs.Loops.{mapping_turn, mapped_twice}
use Rattle.check_processes.proofs.first_inputs.names_of_branches.Goals as goal

pub loop-branch-preserved : goal.loop-branch-preserved
loop-branch-preserved c =
    mapping_turn (λ (b : Branch). (branch_operation b).text) [] _ _ _ _ _ c.loop-branch-test.true c.branch-item.is c.loop-branch.invariant (search rules)

pub returns : goal.returns
returns c =
    c.loop-branch.invariant
    ∙ ap (map (λ (b : Branch). (branch_operation b).text)) (take_all c.loop-branch.branch-index c.args.branches.now (omega arith))
    ∙ sym (mapped_twice (λ (n : Name). n.text) branch_operation c.args.branches.now)

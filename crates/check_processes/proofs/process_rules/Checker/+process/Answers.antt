use Rattle.std.proofs.Common.{ap, sym, ◌∙◌}
use Rattle.jolie_ast.specs.declared.process.Branch.{Branch}
use Rattle.jolie_ast.specs.declared.process.Process.{Process}
use Rattle.check_processes.specs.ProcessParts.{branch_refused, choice_refused, handler_refused, handlers_refused, in_handler, processes_refused}
use Rattle.check_processes.specs.ProcessRules.{process_refused}
use Rattle.check_base.proofs.Joined.{turn_of}
use Rattle.check_processes.proofs.ProcessForms.{block_alone_refused, choice_is_refused, for_refused, if_refused, input_alone_refused, install_refused, output_is_refused, parallel_refused, refused_as, scope_refused, sequence_refused, while_refused}
use Rattle.check_processes.proofs.process_rules.Checker.+process.Goals as goal

pub processes_refused-loop-process-preserved : goal.processes_refused-loop-process-preserved
processes_refused-loop-process-preserved t c =
    let e = c.args.self.now.surroundings.now in
    let h = in_handler c.args.self.now.place in
    turn_of (λ (p : Process). process_refused e p h) _ _ _ _ _ _ c.loop-process-test.true c.process-item.is c.loop-process.invariant c.in_ok-process_refused.ensures

pub branches_refused-loop-branch-preserved : goal.branches_refused-loop-branch-preserved
branches_refused-loop-branch-preserved t c =
    let e = c.args.self.now.surroundings.now in
    let h = in_handler c.args.self.now.place in
    turn_of (λ (b : Branch). branch_refused e b h) _ _ _ _ _ _ c.loop-branch-test.true c.branch-item.is c.loop-branch.invariant c.in_ok-branch_refused.ensures

pub bodies_refused-loop-handler-preserved : goal.bodies_refused-loop-handler-preserved
bodies_refused-loop-handler-preserved t c =
    turn_of (handler_refused c.args.self.now.surroundings.now) _ _ _ _ _ _ c.loop-handler-test.true c.handler-item.is c.loop-handler.invariant c.in_ok-handler_refused.ensures

pub process_refused-returns-in-If : goal.process_refused-returns-in-If
process_refused-returns-in-If t c =
    let e = c.args.self.now.surroundings.now in
    let h = in_handler c.args.self.now.place in
    refused_as c.conditional_refused.result c.args.least.now c.conditional_refused.new.least _ _ (ap (λ (p : Process). process_refused e p h) c.in-If.is ∙ if_refused _ _ _) c.conditional_refused.ensures

pub process_refused-returns-in-While : goal.process_refused-returns-in-While
process_refused-returns-in-While t c =
    let e = c.args.self.now.surroundings.now in
    let h = in_handler c.args.self.now.place in
    refused_as c.block_refused.result c.args.least.now c.block_refused.new.least _ _ (ap (λ (p : Process). process_refused e p h) c.in-While.is ∙ while_refused _ _ _ _ _) c.block_refused.ensures

pub process_refused-returns-in-For : goal.process_refused-returns-in-For
process_refused-returns-in-For t c =
    let e = c.args.self.now.surroundings.now in
    let h = in_handler c.args.self.now.place in
    refused_as c.block_refused-in-For.result c.args.least.now c.block_refused-in-For.new.least _ _ (ap (λ (p : Process). process_refused e p h) c.in-For.is ∙ for_refused _ _ _ _ _ _ _ _ _) c.block_refused-in-For.ensures

pub process_refused-returns-in-Input : goal.process_refused-returns-in-Input
process_refused-returns-in-Input t c =
    let e = c.args.self.now.surroundings.now in
    let h = in_handler c.args.self.now.place in
    refused_as c.input_refused.result c.args.least.now c.input_refused.new.least _ _ (ap (λ (p : Process). process_refused e p h) c.in-Input.is ∙ input_alone_refused _ _ _) c.input_refused.ensures

pub process_refused-returns-in-Choice : goal.process_refused-returns-in-Choice
process_refused-returns-in-Choice t c =
    let e = c.args.self.now.surroundings.now in
    let h = in_handler c.args.self.now.place in
    refused_as c.choice_refused.result c.args.least.now c.choice_refused.new.least _ _ (ap (λ (p : Process). process_refused e p h) c.in-Choice.is ∙ choice_is_refused _ _ _ _ ∙ ap (λ bs. choice_refused e bs h) (sym c.as_slice.ensures)) c.choice_refused.ensures

pub process_refused-returns-in-Output : goal.process_refused-returns-in-Output
process_refused-returns-in-Output t c =
    let e = c.args.self.now.surroundings.now in
    let h = in_handler c.args.self.now.place in
    refused_as c.output_refused.result c.args.least.now c.output_refused.new.least _ _ (ap (λ (p : Process). process_refused e p h) c.in-Output.is ∙ output_is_refused _ _ _ _ _ _) c.output_refused.ensures

pub process_refused-returns-in-Scope : goal.process_refused-returns-in-Scope
process_refused-returns-in-Scope t c =
    let e = c.args.self.now.surroundings.now in
    let h = in_handler c.args.self.now.place in
    refused_as c.block_refused-in-Scope.result c.args.least.now c.block_refused-in-Scope.new.least _ _ (ap (λ (p : Process). process_refused e p h) c.in-Scope.is ∙ scope_refused _ _ _ _ _) c.block_refused-in-Scope.ensures

pub process_refused-returns-in-Install : goal.process_refused-returns-in-Install
process_refused-returns-in-Install t c =
    let e = c.args.self.now.surroundings.now in
    let h = in_handler c.args.self.now.place in
    refused_as c.handlers_refused.result c.args.least.now c.handlers_refused.new.least _ _ (ap (λ (p : Process). process_refused e p h) c.in-Install.is ∙ install_refused _ _ _ _ ∙ ap (handlers_refused e) (sym c.as_slice-in-Install.ensures)) c.handlers_refused.ensures

pub process_refused-returns-in-Block : goal.process_refused-returns-in-Block
process_refused-returns-in-Block t c =
    let e = c.args.self.now.surroundings.now in
    let h = in_handler c.args.self.now.place in
    refused_as c.block_refused-in-Block.result c.args.least.now c.block_refused-in-Block.new.least _ _ (ap (λ (p : Process). process_refused e p h) c.in-Block.is ∙ block_alone_refused _ _ _) c.block_refused-in-Block.ensures

pub process_refused-returns-in-Sequence : goal.process_refused-returns-in-Sequence
process_refused-returns-in-Sequence t c =
    let e = c.args.self.now.surroundings.now in
    let h = in_handler c.args.self.now.place in
    refused_as c.processes_refused.result c.args.least.now c.processes_refused.new.least _ _ (ap (λ (p : Process). process_refused e p h) c.in-Sequence.is ∙ sequence_refused _ _ _ ∙ ap (λ ps. processes_refused e ps h) (sym c.as_slice-in-Sequence.ensures)) c.processes_refused.ensures

pub process_refused-returns-in-Parallel : goal.process_refused-returns-in-Parallel
process_refused-returns-in-Parallel t c =
    let e = c.args.self.now.surroundings.now in
    let h = in_handler c.args.self.now.place in
    refused_as c.processes_refused-in-Parallel.result c.args.least.now c.processes_refused-in-Parallel.new.least _ _ (ap (λ (p : Process). process_refused e p h) c.in-Parallel.is ∙ parallel_refused _ _ _ ∙ ap (λ ps. processes_refused e ps h) (sym c.as_slice-in-Parallel.ensures)) c.processes_refused-in-Parallel.ensures

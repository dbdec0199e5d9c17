use Rattle.std.proofs.Common.{◌≡◌, ◌∷◌, ◌++◌, [], OnOk, arith, codes, flat_map, ap, subst, sym, refl, ◌∙◌}
use Rattle.jolie_ast.specs.Spacing.{after, separated}
use Rattle.jolie_ast.specs.PrintedExpressions.{expr_tokens, in_parens, path_tokens}
use Rattle.jolie_ast.specs.PrintedProcesses.{answer_tokens, assignment_tokens, block_tokens, branch_tokens, for_step_tokens, handler_tokens, process_tokens, value_parens}
use Rattle.jolie_ast.specs.PrintedParts.{maybe}
use Rattle.std.specs.Prelude.{option_map}
use Rattle.jolie_ast.proofs.Spacing.{turn_of, token_then, all_separated, shown_as, shown_behind}
use Rattle.jolie_ast.proofs.PrintedProcesses.{assign_shown, block_form_shown, choice_shown, compensate_shown, conditional_shown, correlate_shown, for_shown, inner_handler_shown, input_form_shown, install_shown, nothing_shown, output_shown, parallel_shown, scope_shown, sequence_shown, throw_shown, undef_shown, while_shown}
use Rattle.jolie_ast.proofs.printer.Printer.+process.Goals as goal

pub branches-loop-branch-preserved : goal.branches-loop-branch-preserved
branches-loop-branch-preserved t c =
    turn_of branch_tokens c.args.self.now c.loop-branch.self c.branch-self.new.self c.args.branches.now c.loop-branch.branch-index c.branch-item.result c.loop-branch-test.true c.branch-item.is c.loop-branch.invariant
    (c.in_ok-branch.ensures)

pub processes-loop-process-preserved : goal.processes-loop-process-preserved
processes-loop-process-preserved t c =
    turn_of (λ p. c.args.sign.now ∷ process_tokens p) c.process.new.self c.loop-process.self c.process-in-loop-process.new.self _ c.loop-process.process-index c.process-item.result c.loop-process-test.true c.process-item.is c.loop-process.invariant
    (token_then c.loop-process.self c.token.new.self c.process-in-loop-process.new.self c.args.sign.now (process_tokens c.process-item.result) _ (c.in_ok-token.ensures) (c.in_ok-process-2.ensures) refl)

pub handlers-loop-handler-preserved : goal.handlers-loop-handler-preserved
handlers-loop-handler-preserved t c =
    turn_of (λ h. codes "," ∷ handler_tokens h) c.handler.new.self c.loop-handler.self c.handler-in-loop-handler.new.self _ c.loop-handler.handler-index c.handler-item.result c.loop-handler-test.true c.handler-item.is c.loop-handler.invariant
    (token_then c.loop-handler.self c.token.new.self c.handler-in-loop-handler.new.self (codes ",") (handler_tokens c.handler-item.result) _ (c.in_ok-token.ensures) (c.in_ok-handler-2.ensures) refl)

pub processes-returns-after-loop-process : goal.processes-returns-after-loop-process
processes-returns-after-loop-process t c =
    all_separated c.args.sign.now process_tokens c.args.self.now c.process.new.self c.loop-process.self c.args.processes.now c.first-item.result c.loop-process.process-index c.in-len1-up.len_at_least c.first-item.is (c.in_ok-process.ensures) c.loop-process.invariant (omega arith)

pub handlers-returns-after-loop-handler : goal.handlers-returns-after-loop-handler
handlers-returns-after-loop-handler t c =
    all_separated (codes ",") handler_tokens c.args.self.now c.handler.new.self c.loop-handler.self c.args.handlers.now c.first-item.result c.loop-handler.handler-index c.in-len1-up.len_at_least c.first-item.is (c.in_ok-handler.ensures) c.loop-handler.invariant (omega arith)

pub process-returns-in_ok-name_in_parens-in-Scope : goal.process-returns-in_ok-name_in_parens-in-Scope
process-returns-in_ok-name_in_parens-in-Scope t c =
    subst (λ us. OnOk c.block-in-Scope.result (c.block-in-Scope.new.self ≡ after c.args.self.now us))
    (sym (ap process_tokens c.in-Scope.is ∙ scope_shown c.in-Scope.at c.in-Scope.name c.in-Scope.body))
    (subst (λ p. OnOk c.block-in-Scope.result (c.block-in-Scope.new.self ≡ after p (block_tokens c.in-Scope.body)))
    (c.in_ok-name_in_parens-in-Scope.ensures ∙ ap (λ p. after p (in_parens (c.in-Scope.name.text ∷ []))) (c.in_ok-token-in-Scope.ensures)) c.block-in-Scope.ensures)

pub process-returns-in_ok-token-in-Install : goal.process-returns-in_ok-token-in-Install
process-returns-in_ok-token-in-Install t c =
    subst (λ us. OnOk c.handlers_in_parens.result (c.handlers_in_parens.new.self ≡ after c.args.self.now us))
    (ap (λ hs. codes "install" ∷ in_parens (separated (codes ",") handler_tokens hs)) c.as_slice-in-Install.ensures ∙ sym (ap process_tokens c.in-Install.is ∙ install_shown c.in-Install.at c.in-Install.handlers))
    (subst (λ p. OnOk c.handlers_in_parens.result (c.handlers_in_parens.new.self ≡ after p (in_parens (separated (codes ",") handler_tokens c.as_slice-in-Install.result.now)))) (c.in_ok-token-in-Install.ensures) c.handlers_in_parens.ensures)

pub process-returns-in-Nothing : goal.process-returns-in-Nothing
process-returns-in-Nothing t c =
    shown_as c.token.result c.args.self.now c.token.new.self _ _ (ap process_tokens c.in-Nothing.is ∙ nothing_shown _) c.token.ensures

pub process-returns-in_ok-path-in-Assign : goal.process-returns-in_ok-path-in-Assign
process-returns-in_ok-path-in-Assign t c =
    shown_behind c.assignment.result c.args.self.now c.path.new.self c.assignment.new.self (path_tokens c.in-Assign.path) (assignment_tokens c.in-Assign.assignment) _ c.in_ok-path-in-Assign.ensures (ap process_tokens c.in-Assign.is ∙ assign_shown _ _) c.assignment.ensures

pub process-returns-in_ok-token-in-Undef : goal.process-returns-in_ok-token-in-Undef
process-returns-in_ok-token-in-Undef t c =
    shown_behind c.path_in_parens.result c.args.self.now c.token-in-Undef.new.self c.path_in_parens.new.self (codes "undef" ∷ []) _ _ c.in_ok-token-in-Undef.ensures (ap process_tokens c.in-Undef.is ∙ undef_shown _ _) c.path_in_parens.ensures

pub process-returns-in-Correlate : goal.process-returns-in-Correlate
process-returns-in-Correlate t c =
    shown_as c.correlate.result c.args.self.now c.correlate.new.self _ _ (ap process_tokens c.in-Correlate.is ∙ correlate_shown _ _ _) c.correlate.ensures

pub process-returns-in-If : goal.process-returns-in-If
process-returns-in-If t c =
    shown_as c.conditional.result c.args.self.now c.conditional.new.self _ _ (ap process_tokens c.in-If.is ∙ conditional_shown _) c.conditional.ensures

pub process-returns-in_ok-in_parens-in-While : goal.process-returns-in_ok-in_parens-in-While
process-returns-in_ok-in_parens-in-While t c =
    shown_behind c.block.result c.args.self.now c.in_parens.new.self c.block.new.self (codes "while" ∷ in_parens (expr_tokens c.in-While.test)) _ _
    (c.in_ok-in_parens-in-While.ensures ∙ ap (λ p. after p (in_parens (expr_tokens c.in-While.test))) c.in_ok-token-in-While.ensures)
    (ap process_tokens c.in-While.is ∙ while_shown _ _ _) c.block.ensures

pub process-returns-in_ok-for_head-in-For : goal.process-returns-in_ok-for_head-in-For
process-returns-in_ok-for_head-in-For t c =
    shown_behind c.block-in-For.result c.args.self.now c.for_head.new.self c.block-in-For.new.self
    (codes "for" ∷ in_parens (path_tokens c.in-For.path ++ codes "=" ∷ (expr_tokens c.in-For.first ++ codes "," ∷ (expr_tokens c.in-For.test ++ codes "," ∷ (path_tokens c.in-For.stepped ++ for_step_tokens c.in-For.step)))))
    (block_tokens c.in-For.body) _ c.in_ok-for_head-in-For.ensures (ap process_tokens c.in-For.is ∙ for_shown _ _ _ _ _ _ _) c.block-in-For.ensures

pub process-returns-in-Input : goal.process-returns-in-Input
process-returns-in-Input t c =
    shown_as c.input.result c.args.self.now c.input.new.self _ _ (ap process_tokens c.in-Input.is ∙ input_form_shown _) c.input.ensures

pub process-returns-in-Choice : goal.process-returns-in-Choice
process-returns-in-Choice t c =
    shown_as c.branches.result c.args.self.now c.branches.new.self _ _ (ap process_tokens c.in-Choice.is ∙ choice_shown _ _ ∙ ap (flat_map branch_tokens) (sym c.as_slice.ensures)) c.branches.ensures

pub process-returns-in_ok-sent-in-Output : goal.process-returns-in_ok-sent-in-Output
process-returns-in_ok-sent-in-Output t c =
    shown_behind c.optional_answer.result c.args.self.now c.sent.new.self c.optional_answer.new.self
    (c.in-Output.operation.text ∷ (codes "@" ∷ (c.in-Output.port.text ∷ value_parens c.in-Output.value)))
    (maybe (option_map answer_tokens c.in-Output.answer)) _ c.in_ok-sent-in-Output.ensures (ap process_tokens c.in-Output.is ∙ output_shown _ _ _ _) c.optional_answer.ensures

pub process-returns-in_ok-token-in-Throw : goal.process-returns-in_ok-token-in-Throw
process-returns-in_ok-token-in-Throw t c =
    shown_behind c.fault_in_parens.result c.args.self.now c.token-in-Throw.new.self c.fault_in_parens.new.self (codes "throw" ∷ []) _ _ c.in_ok-token-in-Throw.ensures (ap process_tokens c.in-Throw.is ∙ throw_shown _ _ _) c.fault_in_parens.ensures

pub process-returns-in_ok-token-in-Compensate : goal.process-returns-in_ok-token-in-Compensate
process-returns-in_ok-token-in-Compensate t c =
    shown_behind c.name_in_parens-in-Compensate.result c.args.self.now c.token-in-Compensate.new.self c.name_in_parens-in-Compensate.new.self (codes "comp" ∷ []) _ _ c.in_ok-token-in-Compensate.ensures (ap process_tokens c.in-Compensate.is ∙ compensate_shown _ _) c.name_in_parens-in-Compensate.ensures

pub process-returns-in-InnerHandler : goal.process-returns-in-InnerHandler
process-returns-in-InnerHandler t c =
    shown_as c.token-in-InnerHandler.result c.args.self.now c.token-in-InnerHandler.new.self _ _ (ap process_tokens c.in-InnerHandler.is ∙ inner_handler_shown _) c.token-in-InnerHandler.ensures

pub process-returns-in-Block : goal.process-returns-in-Block
process-returns-in-Block t c =
    shown_as c.block-in-Block.result c.args.self.now c.block-in-Block.new.self _ _ (ap process_tokens c.in-Block.is ∙ block_form_shown _) c.block-in-Block.ensures

pub process-returns-in-Sequence : goal.process-returns-in-Sequence
process-returns-in-Sequence t c =
    shown_as c.processes.result c.args.self.now c.processes.new.self _ _ (ap process_tokens c.in-Sequence.is ∙ sequence_shown _ ∙ ap (separated (codes ";") process_tokens) (sym c.as_slice-in-Sequence.ensures)) c.processes.ensures

pub process-returns-in-Parallel : goal.process-returns-in-Parallel
process-returns-in-Parallel t c =
    shown_as c.processes-in-Parallel.result c.args.self.now c.processes-in-Parallel.new.self _ _ (ap process_tokens c.in-Parallel.is ∙ parallel_shown _ ∙ ap (separated (codes "|") process_tokens) (sym c.as_slice-in-Parallel.ensures)) c.processes-in-Parallel.ensures

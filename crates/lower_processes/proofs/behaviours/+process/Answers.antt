use Rattle.std.proofs.Common.{◌≡◌, ℕ, Option, map, rules, arith, ap, sym, ◌∙◌}
use Rattle.std.proofs.lemmas.List.{take_all}
use Rattle.std.specs.Prelude.{option_map}
use Rattle.jolie_ast.specs.declared.process.Input.{Input, out-Input}
use Rattle.behaviour_tree.specs.declared.expr.PathExpr.{PathExpr}
use Rattle.behaviour_tree.specs.declared.behaviour.Behaviour.{Behaviour}
use Rattle.behaviour_tree.specs.declared.behaviour.Branch.{roll-Branch}
use Rattle.behaviour_tree.specs.declared.behaviour.ReplyPart.{ReplyPart}
use Rattle.behaviour_tree.specs.Data.{PathTree, Proc}
use Rattle.behaviour_tree.specs.View.{BranchView, ReplyView, handlers_of, behaviour_view, branch_view, path_view, reply_view}
use Rattle.lower_processes.specs.Behaviours.{Numbering, branch_after, lowered_handler, lowered_input, lowered_reply}
use Rattle.lower_processes.specs.Expressions.{lowered_path}
use Rattle.check_base.specs.Files.{place_in}
use Rattle.lower_processes.specs.Numbers.{numbering_of}
use Rattle.lower_processes.proofs.LoweredProcesses.{answer_target, assign_lowered, bare_answer, block_form_lowered, branch_is, choice_lowered, compensate_lowered, conditional_lowered, correlate_lowered, else_if_lowered, else_lowered, empty_block, for_lowered, full_block, handled_answer, handler_is, if_is, inner_handler_lowered, input_before, input_form_lowered, install_lowered, no_else_lowered, nothing_lowered, output_lowered, parallel_lowered, reply_is, scope_lowered, sequence_lowered, throw_lowered, undef_lowered, while_lowered}
use Rattle.lower_processes.proofs.SeenBehaviours.{block_seen, branch_seen, choice_seen, comp_seen, handler_seen, handlers_seen, if_seen, inner_handler_seen, install_seen, nothing_seen, notify_seen, parallel_seen, reply_seen, scope_seen, sequence_seen, solicit_seen, undef_seen, while_seen}
use Rattle.lower_processes.proofs.behaviours.+process.Goals as goal

pub lowered_process-returns-in-Nothing : goal.lowered_process-returns-in-Nothing
lowered_process-returns-in-Nothing t c = grind (arith, nothing_seen, nothing_lowered)

pub lowered_process-returns-in-Assign : goal.lowered_process-returns-in-Assign
lowered_process-returns-in-Assign t c = grind (arith, assign_lowered)

pub lowered_process-returns-in_ok-lowered_path-in-Undef : goal.lowered_process-returns-in_ok-lowered_path-in-Undef
lowered_process-returns-in_ok-lowered_path-in-Undef t c = grind (arith, undef_seen, undef_lowered)

pub lowered_process-returns-in-Correlate : goal.lowered_process-returns-in-Correlate
lowered_process-returns-in-Correlate t c = grind (arith, correlate_lowered)

pub lowered_process-returns-in-If : goal.lowered_process-returns-in-If
lowered_process-returns-in-If t c = grind (arith, conditional_lowered)

pub lowered_process-returns-in_ok-lowered_expr-in-While : goal.lowered_process-returns-in_ok-lowered_expr-in-While
lowered_process-returns-in_ok-lowered_expr-in-While t c = grind (arith, while_seen, while_lowered)

pub lowered_process-returns-in_ok-turn-in-For : goal.lowered_process-returns-in_ok-turn-in-For
lowered_process-returns-in_ok-turn-in-For t c = grind (arith, for_lowered)

pub lowered_process-returns-in-Input : goal.lowered_process-returns-in-Input
lowered_process-returns-in-Input t c = grind (arith, input_form_lowered)

pub lowered_process-returns-in_ok-lowered_branches-in-Choice : goal.lowered_process-returns-in_ok-lowered_branches-in-Choice
lowered_process-returns-in_ok-lowered_branches-in-Choice t c = grind (arith, choice_seen, choice_lowered)

pub lowered_process-returns-in_ok-numbered-in-Output : goal.lowered_process-returns-in_ok-numbered-in-Output
lowered_process-returns-in_ok-numbered-in-Output t c = grind (arith, output_lowered)

pub lowered_process-returns-in_ok-boxed_block-in-Scope : goal.lowered_process-returns-in_ok-boxed_block-in-Scope
lowered_process-returns-in_ok-boxed_block-in-Scope t c = grind (arith, scope_seen, scope_lowered)

pub lowered_process-returns-in_ok-lowered_handlers-in-Install : goal.lowered_process-returns-in_ok-lowered_handlers-in-Install
lowered_process-returns-in_ok-lowered_handlers-in-Install t c = grind (arith, install_seen, install_lowered)

pub lowered_process-returns-in-Throw : goal.lowered_process-returns-in-Throw
lowered_process-returns-in-Throw t c = grind (arith, throw_lowered)

pub lowered_process-returns-in_ok-number-in-Compensate : goal.lowered_process-returns-in_ok-number-in-Compensate
lowered_process-returns-in_ok-number-in-Compensate t c = grind (arith, comp_seen, compensate_lowered)

pub lowered_process-returns-in-InnerHandler : goal.lowered_process-returns-in-InnerHandler
lowered_process-returns-in-InnerHandler t c = grind (arith, inner_handler_seen, inner_handler_lowered)

pub lowered_process-returns-in_ok-boxed_block-in-Block : goal.lowered_process-returns-in_ok-boxed_block-in-Block
lowered_process-returns-in_ok-boxed_block-in-Block t c = grind (arith, block_seen, block_form_lowered)

pub lowered_process-returns-in_ok-lowered_processes-in-Sequence : goal.lowered_process-returns-in_ok-lowered_processes-in-Sequence
lowered_process-returns-in_ok-lowered_processes-in-Sequence t c = grind (arith, sequence_seen, sequence_lowered)

pub lowered_process-returns-in_ok-lowered_processes-in-Parallel : goal.lowered_process-returns-in_ok-lowered_processes-in-Parallel
lowered_process-returns-in_ok-lowered_processes-in-Parallel t c = grind (arith, parallel_seen, parallel_lowered)

pub lowered_block-returns-in-None : goal.lowered_block-returns-in-None
lowered_block-returns-in-None t c = grind (arith, nothing_seen, empty_block (numbering_of c.args.numbers.now c.args.names.now) c.args.block.now c.in-None.is)

pub lowered_block-returns-in-Some : goal.lowered_block-returns-in-Some
lowered_block-returns-in-Some t c = grind (arith, full_block (numbering_of c.args.numbers.now c.args.names.now) c.args.block.now c.in-Some.body c.in-Some.is)

pub lowered_conditional-returns : goal.lowered_conditional-returns
lowered_conditional-returns t c = grind (arith, if_seen, if_is)

pub lowered_otherwise-returns-in_ok-new-in-Nothing : goal.lowered_otherwise-returns-in_ok-new-in-Nothing
lowered_otherwise-returns-in_ok-new-in-Nothing t c = grind (arith, nothing_seen, no_else_lowered)

pub lowered_otherwise-returns-in_ok-new-in-ElseIf : goal.lowered_otherwise-returns-in_ok-new-in-ElseIf
lowered_otherwise-returns-in_ok-new-in-ElseIf t c = grind (arith, else_if_lowered)

pub lowered_otherwise-returns-in-Else : goal.lowered_otherwise-returns-in-Else
lowered_otherwise-returns-in-Else t c = grind (arith, else_lowered)

pub lowered_alone-returns : goal.lowered_alone-returns
lowered_alone-returns t c = grind (arith, choice_seen, nothing_seen)

pub lowered_branch-returns : goal.lowered_branch-returns
lowered_branch-returns t c = grind (arith, branch_is)

-- a branch by its parts
abbrev branch_of : ℕ → Option PathTree → Option ReplyView → Proc → BranchView
branch_of op target reply after = record { op = op; target = target; reply = reply; after = after }

-- an input whose parts are seen is seen with what comes after it
branch_made : (e : Numbering) (i : Input) (op : ℕ) (target : Option PathExpr) (reply : Option ReplyPart) (after : Behaviour)
    → op ≡ place_in e.inputs (out-Input i).operation.text → option_map path_view target ≡ option_map lowered_path (out-Input i).request → option_map reply_view reply ≡ option_map (lowered_reply e) (out-Input i).reply
    → branch_view (roll-Branch (record { op = op; target = target; reply = reply; after = after })) ≡ branch_after (lowered_input e i) (behaviour_view after)
branch_made e i op target reply after same_op same_target same_reply =
    branch_seen op target reply after
    ∙ ap (λ o. branch_of o (option_map path_view target) (option_map reply_view reply) (behaviour_view after)) same_op
    ∙ ap (λ p. branch_of (place_in e.inputs (out-Input i).operation.text) p (option_map reply_view reply) (behaviour_view after)) same_target
    ∙ ap (λ r. branch_of (place_in e.inputs (out-Input i).operation.text) (option_map lowered_path (out-Input i).request) r (behaviour_view after)) same_reply
    ∙ sym (input_before e i (behaviour_view after))

pub lowered_input-returns : goal.lowered_input-returns
lowered_input-returns t c =
    branch_made (numbering_of c.args.numbers.now c.args.names.now) c.args.input.now c.in_ok-op.op c.in_ok-target.target c.in_ok-reply.reply c.into_inner.result
    (c.in_ok-op.ensures ∙ ap (place_in c.args.numbers.now.inputs) c.as_str.ensures) c.in_ok-target.ensures c.in_ok-reply.ensures
    ∙ ap (λ b. branch_after (lowered_input (numbering_of c.args.numbers.now c.args.names.now) c.args.input.now) (behaviour_view b)) c.into_inner.ensures

pub lowered_reply-returns : goal.lowered_reply-returns
lowered_reply-returns t c = grind (arith, reply_seen, reply_is)

pub lowered_output-returns-in_ok-lowered_if_written-in-None : goal.lowered_output-returns-in_ok-lowered_if_written-in-None
lowered_output-returns-in_ok-lowered_if_written-in-None t c = grind (arith, notify_seen)

pub lowered_output-returns-in_ok-lowered_if_written-in-Some : goal.lowered_output-returns-in_ok-lowered_if_written-in-Some
lowered_output-returns-in_ok-lowered_if_written-in-Some t c = grind (arith, solicit_seen, answer_target)

pub answer_handlers-returns-in-None : goal.answer_handlers-returns-in-None
answer_handlers-returns-in-None t c = grind (arith, handlers_seen, bare_answer (numbering_of c.args.numbers.now c.args.names.now) c.args.answer.now c.in-None.is)

pub answer_handlers-returns-in-Some : goal.answer_handlers-returns-in-Some
answer_handlers-returns-in-Some t c = grind (arith, handled_answer (numbering_of c.args.numbers.now c.args.names.now) c.args.answer.now c.in-Some.handlers c.in-Some.is)

pub lowered_handlers-returns : goal.lowered_handlers-returns
lowered_handlers-returns t c =
    handlers_seen c.loop-handler.list
    ∙ ap handlers_of (c.loop-handler.invariant ∙ ap (map (lowered_handler (numbering_of c.args.numbers.now c.args.names.now))) (take_all c.loop-handler.handler-index c.args.handlers.now (search rules)))

pub lowered_handler-returns : goal.lowered_handler-returns
lowered_handler-returns t c = grind (arith, handler_seen, handler_is)

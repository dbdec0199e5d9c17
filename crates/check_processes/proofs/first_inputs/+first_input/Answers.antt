use Rattle.std.proofs.Common.{ap, map, sym, ◌∙◌}
use Rattle.jolie_ast.specs.declared.process.Process.{Process}
use Rattle.check_processes.specs.FirstInputParts.{beginning}
use Rattle.check_processes.specs.FirstInputs.{of_sequence}
use Rattle.check_processes.proofs.Beginnings.{assign_begins, block_form_begins, compensate_begins, correlate_begins, for_begins, if_begins, inner_handler_begins, install_begins, nothing_begins, output_begins, parallel_begins, scope_begins, sequence_begins, throw_begins, undef_begins, while_begins}
use Rattle.check_processes.proofs.first_inputs.+first_input.Goals as goal

pub first_input_of-returns-in-Nothing : goal.first_input_of-returns-in-Nothing
first_input_of-returns-in-Nothing t c = sym (ap (λ (p : Process). (beginning p).operations) c.in-Nothing.is ∙ nothing_begins _)

pub first_input_of-returns-in-Assign : goal.first_input_of-returns-in-Assign
first_input_of-returns-in-Assign t c = sym (ap (λ (p : Process). (beginning p).operations) c.in-Assign.is ∙ assign_begins _ _)

pub first_input_of-returns-in-Undef : goal.first_input_of-returns-in-Undef
first_input_of-returns-in-Undef t c = sym (ap (λ (p : Process). (beginning p).operations) c.in-Undef.is ∙ undef_begins _ _)

pub first_input_of-returns-in-Correlate : goal.first_input_of-returns-in-Correlate
first_input_of-returns-in-Correlate t c = sym (ap (λ (p : Process). (beginning p).operations) c.in-Correlate.is ∙ correlate_begins _ _ _)

pub first_input_of-returns-in-If : goal.first_input_of-returns-in-If
first_input_of-returns-in-If t c = sym (ap (λ (p : Process). (beginning p).operations) c.in-If.is ∙ if_begins _)

pub first_input_of-returns-in-While : goal.first_input_of-returns-in-While
first_input_of-returns-in-While t c = sym (ap (λ (p : Process). (beginning p).operations) c.in-While.is ∙ while_begins _ _ _)

pub first_input_of-returns-in-For : goal.first_input_of-returns-in-For
first_input_of-returns-in-For t c = sym (ap (λ (p : Process). (beginning p).operations) c.in-For.is ∙ for_begins _ _ _ _ _ _ _)

pub first_input_of-returns-in-Output : goal.first_input_of-returns-in-Output
first_input_of-returns-in-Output t c = sym (ap (λ (p : Process). (beginning p).operations) c.in-Output.is ∙ output_begins _ _ _ _)

pub first_input_of-returns-in-Install : goal.first_input_of-returns-in-Install
first_input_of-returns-in-Install t c = sym (ap (λ (p : Process). (beginning p).operations) c.in-Install.is ∙ install_begins _ _)

pub first_input_of-returns-in-Throw : goal.first_input_of-returns-in-Throw
first_input_of-returns-in-Throw t c = sym (ap (λ (p : Process). (beginning p).operations) c.in-Throw.is ∙ throw_begins _ _ _)

pub first_input_of-returns-in-Compensate : goal.first_input_of-returns-in-Compensate
first_input_of-returns-in-Compensate t c = sym (ap (λ (p : Process). (beginning p).operations) c.in-Compensate.is ∙ compensate_begins _ _)

pub first_input_of-returns-in-InnerHandler : goal.first_input_of-returns-in-InnerHandler
first_input_of-returns-in-InnerHandler t c = sym (ap (λ (p : Process). (beginning p).operations) c.in-InnerHandler.is ∙ inner_handler_begins _)

pub first_input_of-returns-in-Parallel : goal.first_input_of-returns-in-Parallel
first_input_of-returns-in-Parallel t c = sym (ap (λ (p : Process). (beginning p).operations) c.in-Parallel.is ∙ parallel_begins _)

pub first_input_of-returns-in-Scope : goal.first_input_of-returns-in-Scope
first_input_of-returns-in-Scope t c = c.first_input.ensures ∙ sym (ap (λ (p : Process). (beginning p).operations) c.in-Scope.is ∙ scope_begins _ _ _)

pub first_input_of-returns-in-Block : goal.first_input_of-returns-in-Block
first_input_of-returns-in-Block t c = c.first_input-in-Block.ensures ∙ sym (ap (λ (p : Process). (beginning p).operations) c.in-Block.is ∙ block_form_begins _)

pub first_input_of-returns-in-Sequence : goal.first_input_of-returns-in-Sequence
first_input_of-returns-in-Sequence t c = c.first_input_of_sequence.ensures ∙ ap (λ ss. of_sequence (map beginning ss)) c.as_slice-in-Sequence.ensures ∙ sym (ap (λ (p : Process). (beginning p).operations) c.in-Sequence.is ∙ sequence_begins _)

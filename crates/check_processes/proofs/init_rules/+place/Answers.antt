use Rattle.std.proofs.Common.{ap, map, sym, ◌∙◌}
use Rattle.check_processes.specs.InitRules.{first_place, process_place}
use Rattle.check_processes.proofs.Places.{choice_place, compensate_place, correlate_place, for_place, inner_handler_place, install_place, nothing_place, parallel_place, scope_place, sequence_place, throw_place, undef_place, while_place}
use Rattle.check_processes.proofs.init_rules.+place.Goals as goal

pub process_place-returns-in-Nothing : goal.process_place-returns-in-Nothing
process_place-returns-in-Nothing t c = sym (ap process_place c.in-Nothing.is ∙ nothing_place _)

pub process_place-returns-in-Undef : goal.process_place-returns-in-Undef
process_place-returns-in-Undef t c = sym (ap process_place c.in-Undef.is ∙ undef_place _ _)

pub process_place-returns-in-Correlate : goal.process_place-returns-in-Correlate
process_place-returns-in-Correlate t c = sym (ap process_place c.in-Correlate.is ∙ correlate_place _ _ _)

pub process_place-returns-in-While : goal.process_place-returns-in-While
process_place-returns-in-While t c = sym (ap process_place c.in-While.is ∙ while_place _ _ _)

pub process_place-returns-in-For : goal.process_place-returns-in-For
process_place-returns-in-For t c = sym (ap process_place c.in-For.is ∙ for_place _ _ _ _ _ _ _)

pub process_place-returns-in-Choice : goal.process_place-returns-in-Choice
process_place-returns-in-Choice t c = sym (ap process_place c.in-Choice.is ∙ choice_place _ _)

pub process_place-returns-in-Scope : goal.process_place-returns-in-Scope
process_place-returns-in-Scope t c = sym (ap process_place c.in-Scope.is ∙ scope_place _ _ _)

pub process_place-returns-in-Install : goal.process_place-returns-in-Install
process_place-returns-in-Install t c = sym (ap process_place c.in-Install.is ∙ install_place _ _)

pub process_place-returns-in-Throw : goal.process_place-returns-in-Throw
process_place-returns-in-Throw t c = sym (ap process_place c.in-Throw.is ∙ throw_place _ _ _)

pub process_place-returns-in-Compensate : goal.process_place-returns-in-Compensate
process_place-returns-in-Compensate t c = sym (ap process_place c.in-Compensate.is ∙ compensate_place _ _)

pub process_place-returns-in-InnerHandler : goal.process_place-returns-in-InnerHandler
process_place-returns-in-InnerHandler t c = sym (ap process_place c.in-InnerHandler.is ∙ inner_handler_place _)

pub process_place-returns-in-Sequence : goal.process_place-returns-in-Sequence
process_place-returns-in-Sequence t c = c.first_place.ensures ∙ ap (λ ss. first_place (map process_place ss)) c.as_slice.ensures ∙ sym (ap process_place c.in-Sequence.is ∙ sequence_place _)

pub process_place-returns-in-Parallel : goal.process_place-returns-in-Parallel
process_place-returns-in-Parallel t c = c.first_place-in-Parallel.ensures ∙ ap (λ ss. first_place (map process_place ss)) c.as_slice-in-Parallel.ensures ∙ sym (ap process_place c.in-Parallel.is ∙ parallel_place _)

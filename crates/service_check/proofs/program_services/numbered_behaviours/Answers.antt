use Rattle.std.proofs.Common.{ap, ◌∙◌}
use Rattle.lower_processes.specs.Behaviours.{lowered_if_there}
use Rattle.lower_processes.specs.Numbers.{numbering_of}
use Rattle.service_check.proofs.program_services.numbered_behaviours.Goals as goal

pub returns-clause-init : goal.returns-clause-init
returns-clause-init c =
    c.in_ok-init.ensures ∙ ap (lowered_if_there (numbering_of c.args.numbers.now c.args.names.now)) c.init_of.ensures

pub returns-clause-main : goal.returns-clause-main
returns-clause-main c =
    c.in_ok-boxed_if_there.ensures ∙ ap (lowered_if_there (numbering_of c.args.numbers.now c.args.names.now)) c.main_of.ensures

use Rattle.std.proofs.Common.{map, ap, ◌∙◌}
use Rattle.std.specs.List.{filter_map}
use Rattle.behaviour_tree.specs.View.{behaviour_view}
use Rattle.check_base.specs.Files.{interface_names, port_in, set_in}
use Rattle.service_check.specs.KeptPorts.{said_execution}
use Rattle.service_check.specs.Programs.{lowered_execution, lowered_port_part, lowered_set}
use Rattle.service_check.proofs.PartsMade.{service_made}
use Rattle.service_check.proofs.program_services.lowered_service.Goals as goal

pub returns : goal.returns
returns c =
    let clauses = c.as_slice-clauses.ensures in
    service_made c.args.interfaces.now c.args.types.now c.args.names.now c.args.service.now _ _ _ _ _ _
    c.in_ok-name.ensures
    (c.execution_of.ensures ∙ ap (λ cs. lowered_execution (said_execution cs)) clauses)
    (c.in_ok-ports.ensures
    ∙ ap (λ ns. map (lowered_port_part ns) (filter_map port_in c.as_slice-clauses.result.now)) c.names.ensures
    ∙ ap (λ cs. map (lowered_port_part (interface_names c.args.interfaces.now)) (filter_map port_in cs)) clauses)
    (c.in_ok-sets.ensures ∙ ap (λ cs. map (lowered_set c.args.types.now) (filter_map set_in cs)) clauses)
    (ap behaviour_view c.into_inner.ensures ∙ c.in_ok-behaviours.ensures.init)
    (ap behaviour_view c.into_inner-2.ensures ∙ c.in_ok-behaviours.ensures.main)

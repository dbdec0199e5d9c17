use Rattle.std.proofs.Common.{map, ap, ◌∙◌}
use Rattle.check_base.specs.Files.{interfaces_of, services_of, types_of, type_names}
use Rattle.lower_types.specs.LoweredTypes.{lowered_definition}
use Rattle.lower_types.specs.LoweredInterfaces.{lowered_interface}
use Rattle.service_check.specs.Programs.{lowered_service}
use Rattle.service_check.proofs.PartsMade.{program_made}
use Rattle.service_check.proofs.program.parts_by_names.Goals as goal

pub returns : goal.returns
returns c =
    let file = c.args.file.now in
    let types = c.requires.types in
    let names = c.requires.names in
    program_made file _ _ _ _
    (c.in_ok-definitions.ensures ∙ ap (λ ts. map (lowered_definition ts) (types_of file)) types)
    (c.in_ok-interfaces.ensures
    ∙ ap (λ ts. map (lowered_interface ts c.args.names.now) (interfaces_of file)) types
    ∙ ap (λ ns. map (lowered_interface (type_names (types_of file)) ns) (interfaces_of file)) names)
    (c.in_ok-services.ensures
    ∙ ap (λ ts. map (lowered_service (interfaces_of file) ts c.args.names.now) (services_of file)) types
    ∙ ap (λ ns. map (lowered_service (interfaces_of file) (type_names (types_of file)) ns) (services_of file)) names)
    (c.in_ok-copied_texts.ensures ∙ c.texts.ensures ∙ names)

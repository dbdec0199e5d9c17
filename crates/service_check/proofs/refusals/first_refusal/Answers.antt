use Rattle.std.proofs.Common.{◌++◌, ap, ◌∙◌, flat_map}
use Rattle.check_base.specs.Files.{interfaces_of, services_of, types_of}
use Rattle.check_base.specs.Least.{joined}
use Rattle.check_ports.specs.PortRules.{input_locations}
use Rattle.service_check.specs.ServiceRules.{service_refused}
use Rattle.check_types.specs.InterfaceRules.{interface_refused}
use Rattle.check_types.specs.TypeRules.{type_refused}
use Rattle.service_check.proofs.FileRefusals.{first_of_all}
use Rattle.service_check.proofs.refusals.first_refusal.Goals as goal

pub returns : goal.returns
returns c =
    let file = c.args.file.now in
    c.first.ensures
    ∙ first_of_all file c.new-least.result c.no_service.new.least c.names_refused.new.least c.file_parts_refused.new.least c.file_services_refused.new.least
    c.new-least.ensures
    c.no_service.ensures
    (c.in_ok-names_refused.ensures)
    (c.in_ok-file_parts_refused.ensures
    ∙ ap (λ ts. joined c.names_refused.new.least (flat_map (type_refused ts) (types_of file) ++ flat_map (interface_refused ts) (interfaces_of file))) c.in_ok-types.ensures)
    (c.in_ok-file_services_refused.ensures
    ∙ ap (λ ts. joined c.file_parts_refused.new.least (flat_map (service_refused ts (interfaces_of file) (input_locations (services_of file))) (services_of file))) c.in_ok-types.ensures)

use Rattle.std.proofs.Common.{◌≡◌, map, flat_map, take}
use Rattle.std.specs.Option.{option_to_list}
use Rattle.behaviour_tree.specs.PartsView.{service_view}
use Rattle.check_base.specs.Files.{service_in}
use Rattle.service_check.specs.Programs.{lowered_service}
use Rattle.service_check.proofs.program_services.lowered_services.Given as goal

abbrev pub invariant-loop-definition : goal.invariant-loop-definition
invariant-loop-definition l = map service_view l.lowered.items ≡ flat_map (λ x. map (lowered_service l.interfaces l.types l.names) (option_to_list (service_in x))) (take l.definition-index l.file)

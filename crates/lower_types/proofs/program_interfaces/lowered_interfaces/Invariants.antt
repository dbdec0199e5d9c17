use Rattle.std.proofs.Common.{◌≡◌, map, flat_map, take}
use Rattle.std.specs.Option.{option_to_list}
use Rattle.behaviour_tree.specs.PartsView.{interface_view}
use Rattle.check_base.specs.Files.{interface_in}
use Rattle.lower_types.specs.LoweredInterfaces.{lowered_interface}
use Rattle.lower_types.proofs.program_interfaces.lowered_interfaces.Given as goal

abbrev pub invariant-loop-definition : goal.invariant-loop-definition
invariant-loop-definition l = map interface_view l.lowered.items ≡ flat_map (λ x. map (lowered_interface l.types l.names) (option_to_list (interface_in x))) (take l.definition-index l.file)

use Rattle.std.proofs.Common.{◌≡◌, map, flat_map, take}
use Rattle.behaviour_tree.specs.PartsView.{operation_view}
use Rattle.check_base.specs.Files.{group_operations}
use Rattle.lower_types.specs.LoweredInterfaces.{lowered_operation}
use Rattle.lower_types.proofs.program_interfaces.lowered_operations.Given as goal

abbrev pub invariant-loop-group : goal.invariant-loop-group
invariant-loop-group l = map operation_view l.operations.items ≡ flat_map (λ g. map (lowered_operation l.types l.names) (group_operations g)) (take l.group-index l.groups)

use Rattle.std.proofs.Common.{◌≡◌, ◌++◌, map, take}
use Rattle.behaviour_tree.specs.PartsView.{operation_view}
use Rattle.check_base.specs.Files.{answering}
use Rattle.lower_types.specs.LoweredInterfaces.{lowered_operation}
use Rattle.lower_types.proofs.program_interfaces.add_answering.Given as goal

abbrev pub invariant-loop-operation : goal.invariant-loop-operation
invariant-loop-operation l = map operation_view l.lowered.items ≡ map operation_view l.initial.lowered.items ++ map (lowered_operation l.types l.names) (map answering (take l.operation-index l.operations))

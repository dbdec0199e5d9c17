use Rattle.std.proofs.Common.{◌≡◌, map, take}
use Rattle.behaviour_tree.specs.PartsView.{throws_view}
use Rattle.lower_types.specs.LoweredInterfaces.{lowered_fault}
use Rattle.lower_types.proofs.program_interfaces.lowered_throws.Given as goal

abbrev pub invariant-loop-fault : goal.invariant-loop-fault
invariant-loop-fault l = map throws_view l.lowered.items ≡ map (lowered_fault l.types l.names) (take l.fault-index l.faults)

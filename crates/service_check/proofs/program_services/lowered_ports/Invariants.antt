use Rattle.std.proofs.Common.{◌≡◌, map, take}
use Rattle.behaviour_tree.specs.PartsView.{port_view}
use Rattle.service_check.specs.KeptPorts.{sided}
use Rattle.service_check.specs.Programs.{lowered_port_part}
use Rattle.service_check.proofs.program_services.lowered_ports.Given as goal

abbrev pub invariant-loop-side : goal.invariant-loop-side
invariant-loop-side l = map port_view l.lowered.items ≡ map (lowered_port_part l.interfaces) (map sided (take l.side-index l.sides))

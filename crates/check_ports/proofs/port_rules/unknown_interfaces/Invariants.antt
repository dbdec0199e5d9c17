use Rattle.std.proofs.Common.{◌≡◌, take, flat_map}
use Rattle.check_base.specs.Least.{joined}
use Rattle.check_ports.specs.PortRules.{unknown_interface}
use Rattle.check_ports.proofs.port_rules.unknown_interfaces.Given as goal

abbrev pub invariant-loop-name : goal.invariant-loop-name
invariant-loop-name l = l.least ≡ joined l.initial.least (flat_map (unknown_interface l.interfaces) (take l.name-index l.names))

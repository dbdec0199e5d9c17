use Rattle.std.proofs.Common.{◌≡◌, flat_map, take}
use Rattle.std.specs.List.{filter_map}
use Rattle.check_base.specs.Files.{service_in}
use Rattle.check_ports.specs.PortParts.{service_locations}
use Rattle.check_ports.proofs.port_rules.input_locations.Given as goal

abbrev pub invariant-loop-definition : goal.invariant-loop-definition
invariant-loop-definition l = l.locations ≡ flat_map service_locations (filter_map service_in (take l.definition-index l.file))

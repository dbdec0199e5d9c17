use Rattle.std.proofs.Common.{◌≡◌, map, take}
use Rattle.std.specs.List.{filter_map}
use Rattle.check_base.specs.Files.{port_in}
use Rattle.check_ports.specs.PortRules.{port_name}
use Rattle.check_ports.proofs.port_rules.port_names.Given as goal

abbrev pub invariant-loop-clause : goal.invariant-loop-clause
invariant-loop-clause l = l.names.items ≡ map port_name (filter_map port_in (take l.clause-index l.clauses))

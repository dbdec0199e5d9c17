use Rattle.std.proofs.Common.{◌≡◌, flat_map, take}
use Rattle.std.specs.List.{filter_map}
use Rattle.check_base.specs.Files.{output_port_in}
use Rattle.check_base.specs.Least.{joined}
use Rattle.check_ports.specs.PortRules.{unmet}
use Rattle.check_ports.proofs.port_rules.all_unmet.Given as goal

abbrev pub invariant-loop-clause : goal.invariant-loop-clause
invariant-loop-clause l = l.least ≡ joined l.initial.least (flat_map (unmet l.locations) (filter_map output_port_in (take l.clause-index l.clauses)))

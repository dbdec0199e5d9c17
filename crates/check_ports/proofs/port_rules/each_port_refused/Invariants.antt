use Rattle.std.proofs.Common.{◌≡◌, flat_map, take}
use Rattle.std.specs.List.{filter_map}
use Rattle.check_base.specs.Files.{port_in}
use Rattle.check_base.specs.Least.{joined}
use Rattle.check_ports.specs.PortRules.{sided_refused}
use Rattle.check_ports.proofs.port_rules.each_port_refused.Given as goal

abbrev pub invariant-loop-clause : goal.invariant-loop-clause
invariant-loop-clause l = l.least ≡ joined l.initial.least (flat_map (sided_refused l.interfaces) (filter_map port_in (take l.clause-index l.clauses)))

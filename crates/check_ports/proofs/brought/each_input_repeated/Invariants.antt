use Rattle.std.proofs.Common.{◌≡◌, flat_map, take}
use Rattle.std.specs.List.{filter_map}
use Rattle.check_base.specs.Files.{input_port_in}
use Rattle.check_base.specs.Least.{joined}
use Rattle.check_ports.specs.PortRules.{operations_repeated}
use Rattle.check_ports.proofs.brought.each_input_repeated.Given as goal

abbrev pub invariant-loop-clause : goal.invariant-loop-clause
invariant-loop-clause l = l.least ≡ joined l.initial.least (flat_map (operations_repeated l.interfaces) (filter_map input_port_in (take l.clause-index l.clauses)))

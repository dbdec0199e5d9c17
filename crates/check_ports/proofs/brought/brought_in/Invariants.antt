use Rattle.std.proofs.Common.{◌≡◌, [], flat_map, take}
use Rattle.std.specs.List.{filter_map}
use Rattle.check_base.specs.Files.{input_port_in}
use Rattle.check_ports.specs.Spared.{spared_in}
use Rattle.check_ports.proofs.BroughtIn.{port_interfaces}
use Rattle.check_ports.proofs.brought.brought_in.Given as goal

abbrev pub invariant-loop-clause : goal.invariant-loop-clause
invariant-loop-clause l = (l.earlier ≡ flat_map port_interfaces (filter_map input_port_in (take l.clause-index l.clauses))) × (l.mentions.items ≡ spared_in l.interfaces [] (filter_map input_port_in (take l.clause-index l.clauses)))

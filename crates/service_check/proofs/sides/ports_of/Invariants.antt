use Rattle.std.proofs.Common.{◌≡◌, map, flat_map, take}
use Rattle.std.specs.Option.{option_to_list}
use Rattle.check_base.specs.Files.{port_in}
use Rattle.service_check.specs.KeptPorts.{sided}
use Rattle.service_check.proofs.sides.ports_of.Given as goal

abbrev pub invariant-loop-clause : goal.invariant-loop-clause
invariant-loop-clause l = map sided l.ports.items ≡ flat_map (λ x. option_to_list (port_in x)) (take l.clause-index l.clauses)

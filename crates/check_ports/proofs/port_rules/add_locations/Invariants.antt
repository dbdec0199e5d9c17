use Rattle.std.proofs.Common.{◌≡◌, ◌++◌, map, take}
use Rattle.std.specs.List.{filter_map}
use Rattle.jolie_ast.specs.declared.service.Port.{Port}
use Rattle.check_base.specs.Files.{input_port_in}
use Rattle.check_ports.proofs.port_rules.add_locations.Given as goal

abbrev pub invariant-loop-clause : goal.invariant-loop-clause
invariant-loop-clause l = l.locations ≡ l.initial.locations ++ map (λ (p : Port). p.location.text) (filter_map input_port_in (take l.clause-index l.clauses))

use Rattle.std.proofs.Common.{◌≡◌, ◌++◌, map, take}
use Rattle.std.specs.List.{filter_map}
use Rattle.jolie_ast.specs.declared.service.Port.{Port}
use Rattle.check_base.specs.Repeated.{as_name}
use Rattle.check_base.specs.Files.{input_port_in}
use Rattle.service_check.proofs.file_names.add_locations.Given as goal

abbrev pub invariant-loop-clause : goal.invariant-loop-clause
invariant-loop-clause l = l.locations.items ≡ l.initial.locations.items ++ map (λ (p : Port). as_name p.location) (filter_map input_port_in (take l.clause-index l.clause-items))

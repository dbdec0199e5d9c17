use Rattle.std.proofs.Common.{◌≡◌, map, take}
use Rattle.std.specs.List.{filter_map}
use Rattle.jolie_ast.specs.declared.service.Service.{Service}
use Rattle.check_base.specs.Files.{service_in}
use Rattle.service_check.proofs.file_names.service_names.Given as goal

abbrev pub invariant-loop-definition : goal.invariant-loop-definition
invariant-loop-definition l = l.names.items ≡ map (λ (s : Service). s.name) (filter_map service_in (take l.definition-index l.file))

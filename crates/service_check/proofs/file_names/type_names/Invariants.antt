use Rattle.std.proofs.Common.{◌≡◌, map, take}
use Rattle.std.specs.List.{filter_map}
use Rattle.jolie_ast.specs.declared.types.TypeDefinition.{TypeDefinition}
use Rattle.check_base.specs.Files.{type_in}
use Rattle.service_check.proofs.file_names.type_names.Given as goal

abbrev pub invariant-loop-definition : goal.invariant-loop-definition
invariant-loop-definition l = l.names.items ≡ map (λ (t : TypeDefinition). t.name) (filter_map type_in (take l.definition-index l.file))

use Rattle.std.proofs.Common.{◌≡◌, map, take}
use Rattle.std.specs.List.{filter_map}
use Rattle.jolie_ast.specs.declared.interface.Interface.{Interface}
use Rattle.check_base.specs.Files.{interface_in}
use Rattle.service_check.proofs.file_names.interface_names.Given as goal

abbrev pub invariant-loop-definition : goal.invariant-loop-definition
invariant-loop-definition l = l.names.items ≡ map (λ (i : Interface). i.name) (filter_map interface_in (take l.definition-index l.file))

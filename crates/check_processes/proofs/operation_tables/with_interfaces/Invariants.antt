use Rattle.std.proofs.Common.{◌≡◌, take, flat_map}
use Rattle.jolie_ast.specs.declared.name.Name.{Name}
use Rattle.check_base.specs.Files.{operations_named}
use Rattle.check_processes.specs.OperationTables.{with_new}
use Rattle.check_processes.proofs.operation_tables.with_interfaces.Given as goal

abbrev pub invariant-loop-name : goal.invariant-loop-name
invariant-loop-name l = l.operations ≡ with_new l.initial.operations (flat_map (λ (n : Name). operations_named l.interfaces n.text) (take l.name-index l.names))

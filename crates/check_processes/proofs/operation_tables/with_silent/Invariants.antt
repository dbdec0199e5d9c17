use Rattle.std.proofs.Common.{◌≡◌, take, map}
use Rattle.check_base.specs.Files.{silent}
use Rattle.check_processes.specs.OperationTables.{with_new}
use Rattle.check_processes.proofs.operation_tables.with_silent.Given as goal

abbrev pub invariant-loop-operation : goal.invariant-loop-operation
invariant-loop-operation l = l.operations ≡ with_new l.initial.operations (map silent (take l.operation-index l.declared))

use Rattle.std.proofs.Common.{◌≡◌, take, flat_map}
use Rattle.check_base.specs.Files.{group_operations}
use Rattle.check_processes.specs.OperationTables.{with_new}
use Rattle.check_processes.proofs.operation_tables.with_groups.Given as goal

abbrev pub invariant-loop-group : goal.invariant-loop-group
invariant-loop-group l = l.operations ≡ with_new l.initial.operations (flat_map group_operations (take l.group-index l.groups))

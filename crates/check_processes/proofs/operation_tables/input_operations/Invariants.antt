use Rattle.std.proofs.Common.{◌≡◌, [], take, flat_map}
use Rattle.check_processes.specs.OperationTables.{operations_of_input, with_new}
use Rattle.check_processes.proofs.operation_tables.input_operations.Given as goal

abbrev pub invariant-loop-clause : goal.invariant-loop-clause
invariant-loop-clause l = l.operations ≡ with_new [] (flat_map (operations_of_input l.interfaces) (take l.clause-index l.clause-items))

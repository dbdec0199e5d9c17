use Rattle.std.proofs.Common.{rules}
use Rattle.check_base.specs.Files.{silent}
use Rattle.check_processes.proofs.OperationTables.{with_new_one}
use Rattle.check_processes.proofs.operation_tables.with_silent.Goals as goal

pub loop-operation-preserved : goal.loop-operation-preserved
loop-operation-preserved c =
    with_new_one silent c.args.operations c.loop-operation.operations c.in_ok-operations.operations c.args.declared.now c.loop-operation.operation-index c.operation-item.result c.loop-operation-test.true c.operation-item.is c.loop-operation.invariant (search rules)

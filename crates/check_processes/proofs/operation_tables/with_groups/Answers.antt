use Rattle.check_base.specs.Files.{group_operations}
use Rattle.check_processes.proofs.OperationTables.{with_new_turn}
use Rattle.check_processes.proofs.operation_tables.with_groups.Goals as goal

pub loop-group-preserved : goal.loop-group-preserved
loop-group-preserved c =
    with_new_turn group_operations c.args.operations c.loop-group.operations c.in_ok-operations.operations c.args.groups.now c.loop-group.group-index c.group-item.result c.loop-group-test.true c.group-item.is c.loop-group.invariant c.in_ok-operations.ensures

use Rattle.std.proofs.Common.{ap, ◌∙◌}
use Rattle.jolie_ast.specs.declared.name.Name.{Name}
use Rattle.check_base.specs.Files.{operations_named}
use Rattle.check_processes.specs.OperationTables.{with_new}
use Rattle.check_processes.proofs.OperationTables.{with_new_turn}
use Rattle.check_processes.proofs.operation_tables.with_interfaces.Goals as goal

pub loop-name-preserved : goal.loop-name-preserved
loop-name-preserved c =
    with_new_turn (λ (n : Name). operations_named c.args.interfaces.now n.text) c.args.operations c.loop-name.operations c.in_ok-operations.operations c.args.names.now c.loop-name.name-index c.name-item.result c.loop-name-test.true c.name-item.is c.loop-name.invariant
    (c.in_ok-operations.ensures ∙ ap (λ t. with_new c.loop-name.operations (operations_named c.args.interfaces.now t)) c.as_str.ensures)

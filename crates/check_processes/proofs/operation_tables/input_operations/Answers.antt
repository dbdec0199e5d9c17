use Rattle.std.proofs.Common.{[], ap, ◌∙◌, arith, flat_map}
use Rattle.std.proofs.lemmas.List.{take_all}
use Rattle.check_processes.specs.OperationTables.{operations_of_input, with_new}
use Rattle.check_processes.proofs.OperationTables.{inputs_found, with_new_turn}
use Rattle.check_processes.proofs.operation_tables.input_operations.Goals as goal

pub loop-clause-preserved : goal.loop-clause-preserved
loop-clause-preserved c =
    with_new_turn (operations_of_input c.args.interfaces.now) [] c.loop-clause.operations c.in_ok-operations.operations c.as_slice-clause-items.result.now c.loop-clause.clause-index c.clause-item.result c.loop-clause-test.true c.clause-item.is c.loop-clause.invariant c.in_ok-operations.ensures

pub returns : goal.returns
returns c =
    c.loop-clause.invariant
    ∙ ap (λ xs. with_new [] (flat_map (operations_of_input c.args.interfaces.now) xs)) (take_all c.loop-clause.clause-index c.as_slice-clause-items.result.now (omega arith) ∙ c.as_slice-clause-items.ensures)
    ∙ ap (with_new []) (inputs_found c.args.interfaces.now c.args.service.now.clauses)

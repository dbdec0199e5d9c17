use Rattle.std.proofs.Common.{[], ap, ◌∙◌, arith, flat_map, map}
use Rattle.std.proofs.lemmas.List.{take_all}
use Rattle.std.specs.Option.{option_to_list}
use Rattle.check_base.specs.Files.{output_port_in}
use Rattle.check_processes.specs.Surroundings.{outlet}
use Rattle.check_processes.proofs.OperationTables.{outlets_found}
use Rattle.check_base.proofs.Loops.{adding_turn}
use Rattle.check_processes.proofs.surroundings.outlets_of.Goals as goal

pub loop-clause-preserved : goal.loop-clause-preserved
loop-clause-preserved c =
    adding_turn (λ x. map (outlet c.args.interfaces.now) (option_to_list (output_port_in x))) [] _ _ _ _ _ c.loop-clause-test.true c.clause-item.is c.loop-clause.invariant c.in_ok-outlets.ensures

pub returns : goal.returns
returns c =
    c.loop-clause.invariant
    ∙ ap (flat_map (λ x. map (outlet c.args.interfaces.now) (option_to_list (output_port_in x)))) (take_all c.loop-clause.clause-index c.as_slice-clause-items.result.now (omega arith) ∙ c.as_slice-clause-items.ensures)
    ∙ outlets_found c.args.interfaces.now c.args.service.now.clauses

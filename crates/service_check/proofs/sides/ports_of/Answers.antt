use Rattle.std.proofs.Common.{rules, [], flat_map, ap, ◌∙◌}
use Rattle.std.specs.Option.{option_to_list}
use Rattle.std.proofs.lemmas.List.{take_all}
use Rattle.check_base.specs.Files.{port_in}
use Rattle.check_base.proofs.Loops.{adding_turn, all_found}
use Rattle.service_check.proofs.sides.ports_of.Goals as goal

pub loop-clause-preserved : goal.loop-clause-preserved
loop-clause-preserved c =
    adding_turn (λ x. option_to_list (port_in x)) [] _ _ _ _ _ c.loop-clause-test.true c.clause-item.is c.loop-clause.invariant c.in_ok-add_port.ensures

pub returns : goal.returns
returns c =
    c.loop-clause.invariant
    ∙ ap (flat_map (λ x. option_to_list (port_in x))) (take_all c.loop-clause.clause-index c.args.clauses.now (search rules))
    ∙ all_found port_in c.args.clauses.now

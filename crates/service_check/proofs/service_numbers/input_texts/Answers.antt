use Rattle.std.proofs.Common.{rules, flat_map, ap, ◌∙◌}
use Rattle.std.proofs.lemmas.List.{take_all}
use Rattle.std.specs.Option.{option_to_list}
use Rattle.check_base.specs.Files.{input_port_in}
use Rattle.service_check.specs.KeptPorts.{port_texts}
use Rattle.check_base.specs.Repeated.{with_texts}
use Rattle.service_check.proofs.Mentions.{naming_turn}
use Rattle.service_check.proofs.Numbering.{inputs_taken}
use Rattle.service_check.proofs.service_numbers.input_texts.Goals as goal

pub loop-clause-preserved : goal.loop-clause-preserved
loop-clause-preserved c =
    naming_turn (λ x. flat_map (port_texts c.args.interfaces.now) (option_to_list (input_port_in x))) c.new-texts.result c.loop-clause.texts c.include_clause.new.texts c.args.clauses.now c.loop-clause.clause-index c.clause-item.result c.loop-clause-test.true c.clause-item.is c.loop-clause.invariant c.in_ok-include_clause.ensures

pub returns : goal.returns
returns c =
    c.loop-clause.invariant
    ∙ ap (λ xs. with_texts c.new-texts.result (flat_map (λ x. flat_map (port_texts c.args.interfaces.now) (option_to_list (input_port_in x))) xs)) (take_all c.loop-clause.clause-index c.args.clauses.now (search rules))
    ∙ ap (λ texts. with_texts texts (flat_map (λ x. flat_map (port_texts c.args.interfaces.now) (option_to_list (input_port_in x))) c.args.clauses.now)) c.new-texts.ensures
    ∙ inputs_taken c.args.interfaces.now c.args.clauses.now

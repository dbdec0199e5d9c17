use Rattle.std.proofs.Common.{ap, ◌∙◌, arith, flat_map}
use Rattle.std.proofs.lemmas.List.{take_all}
use Rattle.std.specs.Option.{option_to_list}
use Rattle.check_base.specs.Files.{interface_in}
use Rattle.check_base.specs.Least.{joined}
use Rattle.check_types.specs.InterfaceRules.{interface_refused}
use Rattle.check_base.proofs.Joined.{turn_of}
use Rattle.check_base.proofs.Loops.{all_of_found}
use Rattle.check_types.proofs.file_rules.interfaces_refused.Goals as goal

pub loop-definition-preserved : goal.loop-definition-preserved
loop-definition-preserved c =
    turn_of (λ d. flat_map (interface_refused c.args.types.now) (option_to_list (interface_in d))) _ _ _ _ _ _ c.loop-definition-test.true c.definition-item.is c.loop-definition.invariant c.in_ok-defined_interface_refused.ensures

pub returns : goal.returns
returns c =
    c.loop-definition.invariant
    ∙ ap (λ ds. joined c.args.least.now (flat_map (λ d. flat_map (interface_refused c.args.types.now) (option_to_list (interface_in d))) ds)) (take_all c.loop-definition.definition-index c.args.file.now (omega arith))
    ∙ ap (joined c.args.least.now) (all_of_found (interface_refused c.args.types.now) interface_in c.args.file.now)

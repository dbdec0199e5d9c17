use Rattle.std.proofs.Common.{ap, ◌∙◌, arith, flat_map}
use Rattle.std.proofs.lemmas.List.{take_all}
use Rattle.std.specs.Option.{option_to_list}
use Rattle.check_base.specs.Files.{type_in}
use Rattle.check_base.specs.Least.{joined}
use Rattle.check_types.specs.TypeRules.{type_refused}
use Rattle.check_base.proofs.Joined.{turn_of}
use Rattle.check_base.proofs.Loops.{all_of_found}
use Rattle.check_types.proofs.file_rules.types_refused.Goals as goal

pub loop-definition-preserved : goal.loop-definition-preserved
loop-definition-preserved c =
    turn_of (λ d. flat_map (type_refused c.args.types.now) (option_to_list (type_in d))) _ _ _ _ _ _ c.loop-definition-test.true c.definition-item.is c.loop-definition.invariant
    (c.in_ok-defined_type_refused.ensures ∙ ap (λ types. joined c.loop-definition.least (flat_map (type_refused types) (option_to_list (type_in c.definition-item.result)))) c.in_ok-circles.ensures)

pub returns : goal.returns
returns c =
    c.loop-definition.invariant
    ∙ ap (λ ds. joined c.args.least.now (flat_map (λ d. flat_map (type_refused c.args.types.now) (option_to_list (type_in d))) ds)) (take_all c.loop-definition.definition-index c.args.file.now (omega arith))
    ∙ ap (joined c.args.least.now) (all_of_found (type_refused c.args.types.now) type_in c.args.file.now)

use Rattle.std.proofs.Common.{[], ap, ◌∙◌, arith, flat_map}
use Rattle.std.proofs.lemmas.List.{take_all}
use Rattle.std.specs.Option.{option_to_list}
use Rattle.check_base.specs.Files.{type_in}
use Rattle.check_base.proofs.Loops.{adding_turn, all_found}
use Rattle.explain_notes.proofs.content.types_in.Goals as goal

pub loop-definition-preserved : goal.loop-definition-preserved
loop-definition-preserved c =
    adding_turn (λ d. option_to_list (type_in d)) [] _ _ _ _ _ c.loop-definition-test.true c.definition-item.is c.loop-definition.invariant c.in_ok-types.ensures

pub returns : goal.returns
returns c =
    c.loop-definition.invariant
    ∙ ap (flat_map (λ d. option_to_list (type_in d))) (take_all c.loop-definition.definition-index c.args.file.now (omega arith))
    ∙ all_found type_in c.args.file.now

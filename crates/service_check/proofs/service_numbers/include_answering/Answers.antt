use Rattle.std.proofs.Common.{rules, map, ap, sym, ◌∙◌}
use Rattle.std.proofs.lemmas.List.{take_all}
use Rattle.jolie_ast.specs.declared.interface.RequestResponse.{RequestResponse}
use Rattle.check_base.specs.Files.{Operation, answering}
use Rattle.check_base.specs.Repeated.{with_text, with_texts}
use Rattle.service_check.proofs.Mentions.{text_turn}
use Rattle.check_base.proofs.Loops.{mapped_twice}
use Rattle.service_check.proofs.service_numbers.include_answering.Goals as goal

pub loop-operation-preserved : goal.loop-operation-preserved
loop-operation-preserved c =
    text_turn (λ (o : RequestResponse). o.name.text) c.args.texts.now c.loop-operation.texts c.include.new.names c.args.operations.now c.loop-operation.operation-index c.operation-item.result c.loop-operation-test.true c.operation-item.is c.loop-operation.invariant (c.in_ok-include.ensures ∙ ap (with_text c.loop-operation.texts) c.as_str.ensures)

pub returns : goal.returns
returns c =
    c.loop-operation.invariant
    ∙ ap (λ xs. with_texts c.args.texts.now (map (λ (o : RequestResponse). o.name.text) xs)) (take_all c.loop-operation.operation-index c.args.operations.now (search rules))
    ∙ ap (with_texts c.args.texts.now) (sym (mapped_twice (λ (o : Operation). o.name.text) answering c.args.operations.now))

use Rattle.std.proofs.Common.{rules, map, flat_map, ap, sym, ◌∙◌}
use Rattle.std.proofs.lemmas.List.{take_all}
use Rattle.jolie_ast.specs.declared.interface.RequestResponse.{RequestResponse}
use Rattle.service_check.specs.MentionedParts.{fault_text}
use Rattle.check_base.specs.Repeated.{with_texts}
use Rattle.service_check.proofs.Mentions.{naming_turn, answering_throw}
use Rattle.service_check.proofs.mentioned.answering_names.Goals as goal

pub loop-operation-preserved : goal.loop-operation-preserved
loop-operation-preserved c =
    naming_turn (λ (o : RequestResponse). map fault_text o.throws) c.args.names.now c.loop-operation.names c.fault_names.new.names c.args.operations.now c.loop-operation.operation-index c.operation-item.result c.loop-operation-test.true c.operation-item.is c.loop-operation.invariant (c.in_ok-fault_names.ensures ∙ ap (λ faults. with_texts c.loop-operation.names (map fault_text faults)) c.as_slice.ensures)

pub returns : goal.returns
returns c =
    c.loop-operation.invariant
    ∙ ap (λ os. with_texts c.args.names.now (flat_map (λ (o : RequestResponse). map fault_text o.throws) os)) (take_all c.loop-operation.operation-index c.args.operations.now (search rules))
    ∙ ap (with_texts c.args.names.now) (sym (answering_throw c.args.operations.now))

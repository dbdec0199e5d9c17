use Rattle.std.proofs.Common.{◌≡◌, map, flat_map, take}
use Rattle.jolie_ast.specs.declared.interface.RequestResponse.{RequestResponse}
use Rattle.service_check.specs.MentionedParts.{fault_text}
use Rattle.check_base.specs.Repeated.{with_texts}
use Rattle.service_check.proofs.mentioned.answering_names.Given as goal

abbrev pub invariant-loop-operation : goal.invariant-loop-operation
invariant-loop-operation l = l.names ≡ with_texts l.initial.names (flat_map (λ (o : RequestResponse). map fault_text o.throws) (take l.operation-index l.operations))

use Rattle.std.proofs.Common.{◌≡◌, flat_map, take}
use Rattle.jolie_ast.specs.declared.interface.OperationGroup.{OperationGroup}
use Rattle.check_base.specs.Files.{group_operations}
use Rattle.service_check.specs.Mentioned.{thrown_by}
use Rattle.check_base.specs.Repeated.{with_texts}
use Rattle.service_check.proofs.mentioned.interface_names.Given as goal

abbrev pub invariant-loop-group : goal.invariant-loop-group
invariant-loop-group l = l.names ≡ with_texts l.initial.names (flat_map (λ (g : OperationGroup). flat_map thrown_by (group_operations g)) (take l.group-index l.group-items))

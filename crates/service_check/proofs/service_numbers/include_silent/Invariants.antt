use Rattle.std.proofs.Common.{◌≡◌, map, take}
use Rattle.jolie_ast.specs.declared.interface.OneWay.{OneWay}
use Rattle.check_base.specs.Repeated.{with_texts}
use Rattle.service_check.proofs.service_numbers.include_silent.Given as goal

abbrev pub invariant-loop-operation : goal.invariant-loop-operation
invariant-loop-operation l = l.texts ≡ with_texts l.initial.texts (map (λ (o : OneWay). o.name.text) (take l.operation-index l.operations))

use Rattle.std.proofs.Common.{◌≡◌, flat_map, take}
use Rattle.check_base.specs.Files.{group_operations, texts_of}
use Rattle.check_base.specs.Repeated.{with_texts}
use Rattle.service_check.proofs.service_numbers.include_operations.Given as goal

abbrev pub invariant-loop-group : goal.invariant-loop-group
invariant-loop-group l = l.texts ≡ with_texts l.initial.texts (flat_map (λ g. texts_of (group_operations g)) (take l.group-index l.group-items))

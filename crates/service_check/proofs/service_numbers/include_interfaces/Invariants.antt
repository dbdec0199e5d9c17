use Rattle.std.proofs.Common.{◌≡◌, flat_map, take}
use Rattle.check_base.specs.Files.{operations_named, texts_of}
use Rattle.check_base.specs.Repeated.{with_texts}
use Rattle.service_check.proofs.service_numbers.include_interfaces.Given as goal

abbrev pub invariant-loop-name : goal.invariant-loop-name
invariant-loop-name l = l.texts ≡ with_texts l.initial.texts (flat_map (λ n. texts_of (operations_named l.interfaces n.text)) (take l.name-index l.names))

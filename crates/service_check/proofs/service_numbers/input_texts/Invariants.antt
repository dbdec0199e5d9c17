use Rattle.std.proofs.Common.{◌≡◌, flat_map, take}
use Rattle.std.specs.Option.{option_to_list}
use Rattle.check_base.specs.Files.{input_port_in}
use Rattle.service_check.specs.KeptPorts.{port_texts}
use Rattle.check_base.specs.Repeated.{with_texts}
use Rattle.service_check.proofs.service_numbers.input_texts.Given as goal

abbrev pub invariant-loop-clause : goal.invariant-loop-clause
invariant-loop-clause l = l.texts ≡ with_texts l.initial.texts (flat_map (λ x. flat_map (port_texts l.interfaces) (option_to_list (input_port_in x))) (take l.clause-index l.clauses))

use Rattle.std.proofs.Common.{◌≡◌, flat_map, take}
use Rattle.service_check.specs.Mentioned.{definition_texts}
use Rattle.check_base.specs.Repeated.{with_texts}
use Rattle.service_check.proofs.mentioned.definitions_names.Given as goal

abbrev pub invariant-loop-definition : goal.invariant-loop-definition
invariant-loop-definition l = l.names ≡ with_texts l.initial.names (flat_map definition_texts (take l.definition-index l.file))

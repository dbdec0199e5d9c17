use Rattle.std.proofs.Common.{◌≡◌, map, flat_map, take}
use Rattle.std.specs.Option.{option_to_list}
use Rattle.behaviour_tree.specs.View.{type_view}
use Rattle.check_base.specs.Files.{type_in}
use Rattle.lower_types.specs.LoweredTypes.{lowered_definition}
use Rattle.lower_types.proofs.program_types.lowered_types.Given as goal

abbrev pub invariant-loop-definition : goal.invariant-loop-definition
invariant-loop-definition l = map type_view l.lowered.items ≡ flat_map (λ x. map (lowered_definition l.types) (option_to_list (type_in x))) (take l.definition-index l.file)

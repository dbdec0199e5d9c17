use Rattle.std.proofs.Common.{◌≡◌, take, flat_map}
use Rattle.std.specs.Option.{option_to_list}
use Rattle.check_base.specs.Files.{type_in}
use Rattle.explain_notes.proofs.content.types_in.Given as goal

abbrev pub invariant-loop-definition : goal.invariant-loop-definition
invariant-loop-definition l = l.types ≡ flat_map (λ d. option_to_list (type_in d)) (take l.definition-index l.file)

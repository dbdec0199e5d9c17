use Rattle.std.proofs.Common.{◌≡◌, take, flat_map}
use Rattle.std.specs.Option.{option_to_list}
use Rattle.check_base.specs.Files.{type_in}
use Rattle.check_base.specs.Least.{joined}
use Rattle.check_types.specs.TypeRules.{type_refused}
use Rattle.check_types.proofs.file_rules.types_refused.Given as goal

abbrev pub invariant-loop-definition : goal.invariant-loop-definition
invariant-loop-definition l = l.least ≡ joined l.initial.least (flat_map (λ d. flat_map (type_refused l.types) (option_to_list (type_in d))) (take l.definition-index l.file))

use Rattle.std.proofs.Common.{◌≡◌, take, flat_map}
use Rattle.std.specs.Option.{option_to_list}
use Rattle.check_base.specs.Files.{interface_in}
use Rattle.check_base.specs.Least.{joined}
use Rattle.check_types.specs.InterfaceRules.{interface_refused}
use Rattle.check_types.proofs.file_rules.interfaces_refused.Given as goal

abbrev pub invariant-loop-definition : goal.invariant-loop-definition
invariant-loop-definition l = l.least ≡ joined l.initial.least (flat_map (λ d. flat_map (interface_refused l.types) (option_to_list (interface_in d))) (take l.definition-index l.file))

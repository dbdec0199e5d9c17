use Rattle.std.proofs.Common.{◌≡◌, take, flat_map}
use Rattle.check_base.specs.Least.{joined}
use Rattle.check_types.specs.InterfaceRules.{group_refused}
use Rattle.check_types.proofs.interface_rules.groups_refused.Given as goal

abbrev pub invariant-loop-group : goal.invariant-loop-group
invariant-loop-group l = l.least ≡ joined l.initial.least (flat_map (group_refused l.types) (take l.group-index l.groups))

use Rattle.std.proofs.Common.{◌≡◌, ◌++◌, take, flat_map}
use Rattle.check_ports.specs.PortRules.{group_at}
use Rattle.check_ports.proofs.brought.bring_groups.Given as goal

abbrev pub invariant-loop-group : goal.invariant-loop-group
invariant-loop-group l = l.mentions.items ≡ l.initial.mentions.items ++ flat_map (group_at l.at) (take l.group-index l.groups)

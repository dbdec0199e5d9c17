use Rattle.std.proofs.Common.{◌≡◌, ◌++◌, take, map}
use Rattle.check_ports.specs.PortRules.{silent_at}
use Rattle.check_ports.proofs.brought.bring_silent.Given as goal

abbrev pub invariant-loop-operation : goal.invariant-loop-operation
invariant-loop-operation l = l.mentions.items ≡ l.initial.mentions.items ++ map (silent_at l.at) (take l.operation-index l.operations)

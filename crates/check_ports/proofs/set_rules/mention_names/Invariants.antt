use Rattle.std.proofs.Common.{◌≡◌, ◌++◌, map, take}
use Rattle.check_ports.proofs.set_rules.mention_names.Given as goal

abbrev pub invariant-loop-name : goal.invariant-loop-name
invariant-loop-name l = l.mentions.items ≡ l.initial.mentions.items ++ map (λ n. n.now) (take l.name-index l.names)

use Rattle.std.proofs.Common.{◌≡◌, flat_map, map, take}
use Rattle.check_ports.specs.SetRules.{alias_names}
use Rattle.check_ports.proofs.set_rules.all_alias_names.Given as goal

abbrev pub invariant-loop-variable : goal.invariant-loop-variable
invariant-loop-variable l = map (λ n. n.now) l.names.items ≡ flat_map alias_names (take l.variable-index l.set)

use Rattle.std.proofs.Common.{◌≡◌, map, take}
use Rattle.check_ports.specs.SetRules.{alias_texts}
use Rattle.check_ports.proofs.set_rules.alias_tables.Given as goal

abbrev pub invariant-loop-variable : goal.invariant-loop-variable
invariant-loop-variable l = l.tables.items ≡ map alias_texts (take l.variable-index l.set)

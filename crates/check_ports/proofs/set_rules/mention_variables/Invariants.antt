use Rattle.std.proofs.Common.{◌≡◌, ◌++◌, take}
use Rattle.check_base.specs.Files.{set_names}
use Rattle.check_ports.proofs.set_rules.mention_variables.Given as goal

abbrev pub invariant-loop-variable : goal.invariant-loop-variable
invariant-loop-variable l = l.mentions.items ≡ l.initial.mentions.items ++ set_names (take l.variable-index l.set)

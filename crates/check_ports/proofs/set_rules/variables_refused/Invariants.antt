use Rattle.std.proofs.Common.{◌≡◌, flat_map, take}
use Rattle.check_base.specs.Least.{joined}
use Rattle.check_ports.specs.SetRules.{variable_refused}
use Rattle.check_ports.proofs.set_rules.variables_refused.Given as goal

abbrev pub invariant-loop-variable : goal.invariant-loop-variable
invariant-loop-variable l = l.least ≡ joined l.initial.least (flat_map (variable_refused l.types) (take l.variable-index l.set))

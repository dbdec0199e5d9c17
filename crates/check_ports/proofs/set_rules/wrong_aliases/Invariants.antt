use Rattle.std.proofs.Common.{◌≡◌, flat_map, take}
use Rattle.check_base.specs.Least.{joined}
use Rattle.check_ports.specs.SetRules.{wrong_alias}
use Rattle.check_ports.proofs.set_rules.wrong_aliases.Given as goal

abbrev pub invariant-loop-alias : goal.invariant-loop-alias
invariant-loop-alias l = l.least ≡ joined l.initial.least (flat_map (wrong_alias l.types) (take l.alias-index l.aliases))

use Rattle.std.proofs.Common.{◌≡◌, take}
use Rattle.std.specs.List.{filter_map}
use Rattle.check_base.specs.Files.{set_in}
use Rattle.check_ports.specs.SetRules.{types_in_sets}
use Rattle.check_ports.proofs.set_rules.types_in_sets.Given as goal

abbrev pub invariant-loop-clause : goal.invariant-loop-clause
invariant-loop-clause l = l.names ≡ types_in_sets (filter_map set_in (take l.clause-index l.clause-items))

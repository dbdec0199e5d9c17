use Rattle.std.proofs.Common.{◌≡◌, flat_map, take}
use Rattle.std.specs.List.{filter_map}
use Rattle.check_base.specs.Files.{set_in, set_names}
use Rattle.check_ports.proofs.set_rules.variable_mentions.Given as goal

abbrev pub invariant-loop-clause : goal.invariant-loop-clause
invariant-loop-clause l = l.mentions.items ≡ flat_map set_names (filter_map set_in (take l.clause-index l.clauses))

use Rattle.std.proofs.Common.{◌≡◌, flat_map, take}
use Rattle.std.specs.List.{filter_map}
use Rattle.check_base.specs.Files.{set_in}
use Rattle.check_ports.specs.SetRules.{set_types}
use Rattle.check_ports.proofs.set_rules.types_of_sets.Given as goal

abbrev pub invariant-loop-clause : goal.invariant-loop-clause
invariant-loop-clause l = l.types.items ≡ flat_map set_types (filter_map set_in (take l.clause-index l.clauses))

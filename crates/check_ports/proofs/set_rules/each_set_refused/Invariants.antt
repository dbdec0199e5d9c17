use Rattle.std.proofs.Common.{◌≡◌, flat_map, take}
use Rattle.std.specs.List.{filter_map}
use Rattle.check_base.specs.Files.{set_in}
use Rattle.check_base.specs.Least.{joined}
use Rattle.check_ports.specs.SetRules.{set_refused}
use Rattle.check_ports.proofs.set_rules.each_set_refused.Given as goal

abbrev pub invariant-loop-clause : goal.invariant-loop-clause
invariant-loop-clause l = l.least ≡ joined l.initial.least (flat_map (set_refused l.types) (filter_map set_in (take l.clause-index l.clauses)))

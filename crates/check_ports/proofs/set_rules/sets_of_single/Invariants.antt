use Rattle.std.proofs.Common.{◌≡◌, flat_map, take}
use Rattle.check_base.specs.Least.{joined}
use Rattle.check_ports.specs.SetRules.{set_of_single}
use Rattle.check_ports.proofs.set_rules.sets_of_single.Given as goal

abbrev pub invariant-loop-clause : goal.invariant-loop-clause
invariant-loop-clause l = l.least ≡ joined l.initial.least (flat_map (set_of_single l.is_concurrent) (take l.clause-index l.clauses))

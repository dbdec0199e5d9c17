use Rattle.std.proofs.Common.{◌≡◌, take}
use Rattle.check_base.specs.Least.{joined}
use Rattle.check_processes.specs.InitParts.{no_assignments}
use Rattle.check_processes.proofs.init_rules.no_assignments.Given as goal

abbrev pub invariant-loop-statement : goal.invariant-loop-statement
invariant-loop-statement l = l.least ≡ joined l.initial.least (no_assignments (take l.statement-index l.statements))

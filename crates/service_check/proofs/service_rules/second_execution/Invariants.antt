use Rattle.std.proofs.Common.{◌≡◌}
use Rattle.check_base.specs.declared.refusal.CheckName.TheVariants.{DuplicateName}
use Rattle.check_base.specs.Least.{joined, refused}
use Rattle.service_check.proofs.service_rules.second_execution.Given as goal

abbrev pub invariant-loop-at : goal.invariant-loop-at
invariant-loop-at l = l.least ≡ joined l.initial.least (refused DuplicateName l.yielded)

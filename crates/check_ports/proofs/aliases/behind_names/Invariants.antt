use Rattle.std.proofs.Common.{◌≡◌}
use Rattle.check_base.specs.TypeNames.{behind_names}
use Rattle.check_ports.proofs.Behind.{behind}
use Rattle.check_ports.proofs.aliases.behind_names.Given as goal

abbrev pub invariant-loop-name : goal.invariant-loop-name
invariant-loop-name l = behind l.types l.left l.body ≡ behind_names l.types l.initial.body

abbrev pub decreases-loop-name : goal.decreases-loop-name
decreases-loop-name l = l.left

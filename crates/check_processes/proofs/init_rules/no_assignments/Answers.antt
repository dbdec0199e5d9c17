use Rattle.check_processes.specs.InitParts.{no_assignment}
use Rattle.check_base.proofs.Joined.{turn_of}
use Rattle.check_processes.proofs.init_rules.no_assignments.Goals as goal

pub loop-statement-preserved : goal.loop-statement-preserved
loop-statement-preserved c =
    turn_of no_assignment _ _ _ _ _ _ c.loop-statement-test.true c.statement-item.is c.loop-statement.invariant c.no_assignment.ensures

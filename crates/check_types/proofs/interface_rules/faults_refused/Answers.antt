use Rattle.check_types.specs.InterfaceRules.{fault_refused}
use Rattle.check_base.proofs.Joined.{turn_of}
use Rattle.check_types.proofs.interface_rules.faults_refused.Goals as goal

pub loop-fault-preserved : goal.loop-fault-preserved
loop-fault-preserved c =
    turn_of (fault_refused c.args.types.now) _ _ _ _ _ _ c.loop-fault-test.true c.fault-item.is c.loop-fault.invariant c.unknown_if_written.ensures

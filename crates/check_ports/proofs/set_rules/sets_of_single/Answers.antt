use Rattle.check_ports.specs.SetRules.{set_of_single}
use Rattle.check_base.proofs.Joined.{turn_of}
use Rattle.check_ports.proofs.set_rules.sets_of_single.Goals as goal

pub loop-clause-preserved : goal.loop-clause-preserved
loop-clause-preserved c =
    turn_of (set_of_single c.args.is_concurrent) _ _ _ _ _ _ c.loop-clause-test.true c.clause-item.is c.loop-clause.invariant c.set_of_single.ensures

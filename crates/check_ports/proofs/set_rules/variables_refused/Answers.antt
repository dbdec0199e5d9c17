use Rattle.check_ports.specs.SetRules.{variable_refused}
use Rattle.check_base.proofs.Joined.{turn_of}
use Rattle.check_ports.proofs.set_rules.variables_refused.Goals as goal

pub loop-variable-preserved : goal.loop-variable-preserved
loop-variable-preserved c =
    turn_of (variable_refused c.args.types.now) _ _ _ _ _ _ c.loop-variable-test.true c.variable-item.is c.loop-variable.invariant c.in_ok-variable_refused.ensures

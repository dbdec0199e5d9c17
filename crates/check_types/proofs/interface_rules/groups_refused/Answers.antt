use Rattle.check_types.specs.InterfaceRules.{group_refused}
use Rattle.check_base.proofs.Joined.{turn_of}
use Rattle.check_types.proofs.interface_rules.groups_refused.Goals as goal

pub loop-group-preserved : goal.loop-group-preserved
loop-group-preserved c =
    turn_of (group_refused c.args.types.now) _ _ _ _ _ _ c.loop-group-test.true c.group-item.is c.loop-group.invariant c.in_ok-group_refused.ensures

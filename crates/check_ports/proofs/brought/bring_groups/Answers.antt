use Rattle.check_ports.specs.PortRules.{group_at}
use Rattle.check_base.proofs.Loops.{adding_turn}
use Rattle.check_ports.proofs.brought.bring_groups.Goals as goal

pub loop-group-preserved : goal.loop-group-preserved
loop-group-preserved c =
    adding_turn (group_at c.args.at) c.args.mentions.now.items _ _ _ _ _ c.loop-group-test.true c.group-item.is c.loop-group.invariant c.in_ok-bring_group.ensures

use Rattle.check_ports.specs.PortRules.{unknown_interface}
use Rattle.check_base.proofs.Joined.{turn_of}
use Rattle.check_ports.proofs.port_rules.unknown_interfaces.Goals as goal

pub loop-name-preserved : goal.loop-name-preserved
loop-name-preserved c =
    turn_of (unknown_interface c.args.interfaces.now) _ _ _ _ _ _ c.loop-name-test.true c.name-item.is c.loop-name.invariant c.unknown_interface.ensures

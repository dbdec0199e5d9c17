use Rattle.check_ports.specs.SetRules.{partly_among}
use Rattle.check_ports.proofs.Nows.{nows_turn}
use Rattle.check_ports.proofs.set_rules.each_partly.Goals as goal

pub loop-ty-preserved : goal.loop-ty-preserved
loop-ty-preserved c =
    nows_turn (partly_among c.args.tables.now) _ _ _ _ _ _ c.loop-ty-test.true c.ty-item.is c.loop-ty.invariant c.partly.ensures

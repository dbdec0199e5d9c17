use Rattle.check_ports.specs.SetRules.{wrong_alias}
use Rattle.check_base.proofs.Joined.{turn_of}
use Rattle.check_ports.proofs.set_rules.wrong_aliases.Goals as goal

pub loop-alias-preserved : goal.loop-alias-preserved
loop-alias-preserved c =
    turn_of (wrong_alias c.args.types.now) _ _ _ _ _ _ c.loop-alias-test.true c.alias-item.is c.loop-alias.invariant c.wrong_alias.ensures

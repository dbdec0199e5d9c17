use Rattle.check_types.specs.InterfaceRules.{answering_refused}
use Rattle.check_base.proofs.Joined.{turn_of}
use Rattle.check_types.proofs.interface_rules.all_answering_refused.Goals as goal

pub loop-operation-preserved : goal.loop-operation-preserved
loop-operation-preserved c =
    turn_of (answering_refused c.args.types.now) _ _ _ _ _ _ c.loop-operation-test.true c.operation-item.is c.loop-operation.invariant c.in_ok-answering_refused.ensures

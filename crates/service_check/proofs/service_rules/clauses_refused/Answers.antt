use Rattle.service_check.specs.ServiceRules.{clause_refused}
use Rattle.check_base.proofs.Joined.{turn_of}
use Rattle.service_check.proofs.service_rules.clauses_refused.Goals as goal

pub loop-clause-preserved : goal.loop-clause-preserved
loop-clause-preserved c =
    turn_of (clause_refused c.args.surroundings.now) _ _ _ _ _ _ c.loop-clause-test.true c.clause-item.is c.loop-clause.invariant c.in_ok-clause_refused.ensures

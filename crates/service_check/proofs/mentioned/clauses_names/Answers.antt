use Rattle.service_check.specs.Mentioned.{clause_texts}
use Rattle.service_check.proofs.Mentions.{naming_turn}
use Rattle.service_check.proofs.mentioned.clauses_names.Goals as goal

pub loop-clause-preserved : goal.loop-clause-preserved
loop-clause-preserved c =
    naming_turn clause_texts c.args.names.now c.loop-clause.names c.clause_names.new.names c.args.clauses.now c.loop-clause.clause-index c.clause-item.result c.loop-clause-test.true c.clause-item.is c.loop-clause.invariant c.in_ok-clause_names.ensures

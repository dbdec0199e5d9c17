use Rattle.std.proofs.Common.{rules}
use Rattle.check_base.specs.Files.{main_in}
use Rattle.check_base.proofs.FirstFound.{found_later}
use Rattle.check_base.proofs.clauses.main_of.Goals as goal

pub loop-clause-preserved : goal.loop-clause-preserved
loop-clause-preserved c =
    found_later main_in c.args.clauses.now c.loop-clause.clause-index c.clause-item.result c.loop-clause-test.true c.clause-item.is (search rules) c.loop-clause.invariant

use Rattle.std.proofs.Common.{refl}
use Rattle.check_base.specs.Files.{set_in}
use Rattle.check_ports.specs.SetRules.{set_refused}
use Rattle.check_base.proofs.Loops.{picked_turn}
use Rattle.check_ports.proofs.set_rules.each_set_refused.Goals as goal
use Rattle.check_ports.proofs.set_rules.each_set_refused.Goals.{in-Some+in_ok-set_refused, in_default}

pub loop-clause-preserved : goal.loop-clause-preserved
loop-clause-preserved c =
    picked_turn (set_refused c.args.types.now) set_in c.args.least.now c.loop-clause.least c.match-set_in.least c.args.clauses.now c.loop-clause.clause-index c.clause-item.result c.loop-clause-test.true c.clause-item.is c.loop-clause.invariant
    (elim c.match-set_in.branch [
      | in-Some+in_ok-set_refused w ↦ rw (← c.set_in.ensures, w.in-Some.is, w.least-is) w.in_ok-set_refused.ensures
      | in_default w ↦ rw (← c.set_in.ensures, w.in_default.is, w.least-is) refl
    ])

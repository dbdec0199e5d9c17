use Rattle.std.proofs.Common.{refl}
use Rattle.check_base.specs.Files.{output_port_in}
use Rattle.check_ports.specs.PortRules.{unmet}
use Rattle.check_base.proofs.Loops.{picked_turn}
use Rattle.check_ports.proofs.port_rules.all_unmet.Goals as goal
use Rattle.check_ports.proofs.port_rules.all_unmet.Goals.{in-Some, in_default}

pub loop-clause-preserved : goal.loop-clause-preserved
loop-clause-preserved c =
    picked_turn (unmet c.args.locations.now) output_port_in c.args.least.now c.loop-clause.least c.match-output_port_in.least c.args.clauses.now c.loop-clause.clause-index c.clause-item.result c.loop-clause-test.true c.clause-item.is c.loop-clause.invariant
    (elim c.match-output_port_in.branch [
      | in-Some w ↦ rw (← c.output_port_in.ensures, w.in-Some.is, w.least-is) w.unmet.ensures
      | in_default w ↦ rw (← c.output_port_in.ensures, w.in_default.is, w.least-is) refl
    ])

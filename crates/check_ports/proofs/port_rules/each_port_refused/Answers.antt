use Rattle.std.proofs.Common.{refl}
use Rattle.check_base.specs.Files.{Sided, port_in}
use Rattle.check_ports.specs.PortRules.{port_refused}
use Rattle.check_base.proofs.Loops.{picked_part_turn}
use Rattle.check_ports.proofs.port_rules.each_port_refused.Goals as goal
use Rattle.check_ports.proofs.port_rules.each_port_refused.Goals.{in-Some, in_default}

pub loop-clause-preserved : goal.loop-clause-preserved
loop-clause-preserved c =
    picked_part_turn (port_refused c.args.interfaces.now) (λ (p : Sided). p.port) port_in c.args.least.now c.loop-clause.least c.match-port_in.least c.args.clauses.now c.loop-clause.clause-index c.clause-item.result c.loop-clause-test.true c.clause-item.is c.loop-clause.invariant
    (elim c.match-port_in.branch [
      | in-Some w ↦ rw (← c.port_in.ensures, w.in-Some.is, w.least-is) w.port_refused.ensures
      | in_default w ↦ rw (← c.port_in.ensures, w.in_default.is, w.least-is) refl
    ])

use Rattle.std.proofs.Common.{append-nil, refl, sym}
use Rattle.jolie_ast.specs.declared.service.Port.{Port}
use Rattle.check_base.specs.Files.{input_port_in}
use Rattle.check_base.proofs.Loops.{picked_maps}
use Rattle.check_ports.proofs.port_rules.add_locations.Goals as goal
use Rattle.check_ports.proofs.port_rules.add_locations.Goals.{in-Some+in_ok-add, in_default}

pub loop-clause-preserved : goal.loop-clause-preserved
loop-clause-preserved c =
    picked_maps (λ (p : Port). p.location.text) input_port_in c.args.locations.now c.loop-clause.locations c.match-input_port_in.locations c.args.clauses.now c.loop-clause.clause-index c.clause-item.result c.loop-clause-test.true c.clause-item.is c.loop-clause.invariant
    (elim c.match-input_port_in.branch [
      | in-Some+in_ok-add w ↦ rw (← c.input_port_in.ensures, w.in-Some.is, w.locations-is, w.in_ok-add.ensures.added, w.as_str.ensures) refl
      | in_default w ↦ rw (← c.input_port_in.ensures, w.in_default.is, w.locations-is) (sym (append-nil c.loop-clause.locations))
    ])

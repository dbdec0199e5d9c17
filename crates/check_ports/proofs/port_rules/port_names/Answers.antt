use Rattle.std.proofs.Common.{[], append-nil, refl, sym}
use Rattle.jolie_ast.specs.declared.service.Port.{Port}
use Rattle.check_base.specs.Files.{Sided, port_in}
use Rattle.check_base.proofs.Loops.{picked_part_maps}
use Rattle.check_ports.proofs.port_rules.port_names.Goals as goal
use Rattle.check_ports.proofs.port_rules.port_names.Goals.{in-Some+in_ok-push, in_default}

pub loop-clause-preserved : goal.loop-clause-preserved
loop-clause-preserved c =
    picked_part_maps (λ (p : Port). p.name) (λ (p : Sided). p.port) port_in [] c.loop-clause.names.items c.match-port_in.names.items c.args.clauses.now c.loop-clause.clause-index c.clause-item.result c.loop-clause-test.true c.clause-item.is c.loop-clause.invariant
    (elim c.match-port_in.branch [
      | in-Some+in_ok-push w ↦ rw (← c.port_in.ensures, w.in-Some.is, w.names-is, w.in_ok-push.ensures.items, w.name.ensures) refl
      | in_default w ↦ rw (← c.port_in.ensures, w.in_default.is, w.names-is) (sym (append-nil c.loop-clause.names.items))
    ])

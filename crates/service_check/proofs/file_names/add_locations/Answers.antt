use Rattle.std.proofs.Common.{append-nil, refl, sym}
use Rattle.jolie_ast.specs.declared.service.Port.{Port}
use Rattle.check_base.specs.Repeated.{as_name}
use Rattle.check_base.specs.Files.{input_port_in}
use Rattle.check_base.proofs.Loops.{picked_maps}
use Rattle.service_check.proofs.file_names.add_locations.Goals as goal
use Rattle.service_check.proofs.file_names.add_locations.Goals.{in-Some+in_ok-push, in_default}

pub loop-clause-preserved : goal.loop-clause-preserved
loop-clause-preserved c =
    picked_maps (λ (p : Port). as_name p.location) input_port_in c.args.locations.now.items c.loop-clause.locations.items c.match-input_port_in.locations.items c.as_slice-clause-items.result.now c.loop-clause.clause-index c.clause-item.result c.loop-clause-test.true c.clause-item.is c.loop-clause.invariant
    (elim c.match-input_port_in.branch [
      | in-Some+in_ok-push w ↦ rw (← c.input_port_in.ensures, w.in-Some.is, w.locations-is, w.in_ok-push.ensures.items, w.quoted.ensures) refl
      | in_default w ↦ rw (← c.input_port_in.ensures, w.in_default.is, w.locations-is) (sym (append-nil c.loop-clause.locations.items))
    ])

use Rattle.std.proofs.Common.{[], append-nil, refl, sym}
use Rattle.check_base.specs.Files.{service_in}
use Rattle.check_ports.specs.PortParts.{service_locations}
use Rattle.check_base.proofs.Loops.{picked_adds}
use Rattle.check_ports.proofs.port_rules.input_locations.Goals as goal
use Rattle.check_ports.proofs.port_rules.input_locations.Goals.{in-Some+in_ok-add_locations, in_default}

pub loop-definition-preserved : goal.loop-definition-preserved
loop-definition-preserved c =
    picked_adds service_locations service_in [] c.loop-definition.locations c.match-service_in.locations c.args.file.now c.loop-definition.definition-index c.definition-item.result c.loop-definition-test.true c.definition-item.is c.loop-definition.invariant
    (elim c.match-service_in.branch [
      | in-Some+in_ok-add_locations w ↦ rw (← c.service_in.ensures, w.in-Some.is, w.locations-is, w.in_ok-add_locations.ensures, w.as_slice.ensures) refl
      | in_default w ↦ rw (← c.service_in.ensures, w.in_default.is, w.locations-is) (sym (append-nil c.loop-definition.locations))
    ])

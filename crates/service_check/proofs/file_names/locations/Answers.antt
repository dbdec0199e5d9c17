use Rattle.std.proofs.Common.{[], append-nil, sym}
use Rattle.check_base.specs.Files.{service_in}
use Rattle.service_check.specs.Refusals.{locations_in}
use Rattle.check_base.proofs.Loops.{picked_adds}
use Rattle.service_check.proofs.file_names.locations.Goals as goal
use Rattle.service_check.proofs.file_names.locations.Goals.{in-Some+in_ok-add_locations, in_default}

pub loop-definition-preserved : goal.loop-definition-preserved
loop-definition-preserved c =
    picked_adds locations_in service_in [] c.loop-definition.locations.items c.match-service_in.locations.items c.args.file.now c.loop-definition.definition-index c.definition-item.result c.loop-definition-test.true c.definition-item.is c.loop-definition.invariant
    (elim c.match-service_in.branch [
      | in-Some+in_ok-add_locations w ↦ rw (← c.service_in.ensures, w.in-Some.is, w.locations-is) w.in_ok-add_locations.ensures
      | in_default w ↦ rw (← c.service_in.ensures, w.in_default.is, w.locations-is) (sym (append-nil c.loop-definition.locations.items))
    ])

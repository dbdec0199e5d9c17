use Rattle.std.proofs.Common.{[], append-nil, sym}
use Rattle.check_base.specs.Files.{service_in}
use Rattle.check_base.proofs.Loops.{picked_adds}
use Rattle.explain_notes.specs.Services.{sockets_of}
use Rattle.explain_notes.proofs.sockets.own_sockets.Goals as goal
use Rattle.explain_notes.proofs.sockets.own_sockets.Goals.{in-Some+in_ok-add_service, in_default}

pub loop-definition-preserved : goal.loop-definition-preserved
loop-definition-preserved c =
    picked_adds sockets_of service_in [] c.loop-definition.names c.match-service_in.names c.args.file.now c.loop-definition.definition-index c.definition-item.result c.loop-definition-test.true c.definition-item.is c.loop-definition.invariant
    (elim c.match-service_in.branch [
      | in-Some+in_ok-add_service w ↦ rw (← c.service_in.ensures, w.in-Some.is, w.names-is) w.in_ok-add_service.ensures
      | in_default w ↦ rw (← c.service_in.ensures, w.in_default.is, w.names-is) (sym (append-nil c.loop-definition.names))
    ])

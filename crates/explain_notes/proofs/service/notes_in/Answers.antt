use Rattle.std.proofs.Common.{[], append-nil, sym}
use Rattle.check_base.specs.Files.{service_in}
use Rattle.check_base.proofs.Loops.{picked_adds}
use Rattle.explain_notes.specs.Notes.{service_notes}
use Rattle.explain_notes.proofs.service.notes_in.Goals as goal
use Rattle.explain_notes.proofs.service.notes_in.Goals.{in-Some+in_ok-add_service, in_default}

pub loop-definition-preserved : goal.loop-definition-preserved
loop-definition-preserved c =
    picked_adds (service_notes c.args.facts.now) service_in [] c.loop-definition.notes.items c.match-service_in.notes.items c.args.file.now c.loop-definition.definition-index c.definition-item.result c.loop-definition-test.true c.definition-item.is c.loop-definition.invariant
    (elim c.match-service_in.branch [
      | in-Some+in_ok-add_service w ↦ rw (← c.service_in.ensures, w.in-Some.is, w.notes-is) w.in_ok-add_service.ensures
      | in_default w ↦ rw (← c.service_in.ensures, w.in_default.is, w.notes-is) (sym (append-nil c.loop-definition.notes.items))
    ])

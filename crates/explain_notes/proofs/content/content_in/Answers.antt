use Rattle.std.proofs.Common.{[], append-nil, sym}
use Rattle.check_base.specs.Files.{interface_in, operations_in}
use Rattle.check_base.proofs.Loops.{picked_adds}
use Rattle.explain_notes.specs.Answers.{content_among}
use Rattle.explain_notes.proofs.content.content_in.Goals as goal
use Rattle.explain_notes.proofs.content.content_in.Goals.{in-Some+in_ok-add_interface, in_default}

pub loop-definition-preserved : goal.loop-definition-preserved
loop-definition-preserved c =
    picked_adds (λ i. content_among c.args.types.now (operations_in i)) interface_in [] c.loop-definition.names c.match-interface_in.names c.args.file.now c.loop-definition.definition-index c.definition-item.result c.loop-definition-test.true c.definition-item.is c.loop-definition.invariant
    (elim c.match-interface_in.branch [
      | in-Some+in_ok-add_interface w ↦ rw (← c.interface_in.ensures, w.in-Some.is, w.names-is) w.in_ok-add_interface.ensures
      | in_default w ↦ rw (← c.interface_in.ensures, w.in_default.is, w.names-is) (sym (append-nil c.loop-definition.names))
    ])

use Rattle.std.proofs.Common.{[], append-nil, refl, sym}
use Rattle.jolie_ast.specs.declared.interface.Interface.{Interface}
use Rattle.check_base.specs.Files.{interface_in}
use Rattle.check_base.proofs.Loops.{picked_maps}
use Rattle.service_check.proofs.file_names.interface_names.Goals as goal
use Rattle.service_check.proofs.file_names.interface_names.Goals.{in-Some+in_ok-push, in_default}

pub loop-definition-preserved : goal.loop-definition-preserved
loop-definition-preserved c =
    picked_maps (λ (i : Interface). i.name) interface_in [] c.loop-definition.names.items c.match-interface_in.names.items c.args.file.now c.loop-definition.definition-index c.definition-item.result c.loop-definition-test.true c.definition-item.is c.loop-definition.invariant
    (elim c.match-interface_in.branch [
      | in-Some+in_ok-push w ↦ rw (← c.interface_in.ensures, w.in-Some.is, w.names-is, w.in_ok-push.ensures.items, w.name.ensures) refl
      | in_default w ↦ rw (← c.interface_in.ensures, w.in_default.is, w.names-is) (sym (append-nil c.loop-definition.names.items))
    ])

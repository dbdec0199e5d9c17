use Rattle.std.proofs.Common.{[], append-nil, sym}
use Rattle.check_base.specs.Files.{set_in}
use Rattle.check_ports.specs.SetRules.{set_texts}
use Rattle.check_base.proofs.Loops.{picked_adds}
use Rattle.check_ports.proofs.set_rules.types_in_sets.Goals as goal
use Rattle.check_ports.proofs.set_rules.types_in_sets.Goals.{in-Some+in_ok-add_set_types, in_default}

pub loop-clause-preserved : goal.loop-clause-preserved
loop-clause-preserved c =
    picked_adds set_texts set_in [] c.loop-clause.names c.match-set_in.names c.as_slice-clause-items.result.now c.loop-clause.clause-index c.clause-item.result c.loop-clause-test.true c.clause-item.is c.loop-clause.invariant
    (elim c.match-set_in.branch [
      | in-Some+in_ok-add_set_types w ↦ rw (← c.set_in.ensures, w.in-Some.is, w.names-is) w.in_ok-add_set_types.ensures
      | in_default w ↦ rw (← c.set_in.ensures, w.in_default.is, w.names-is) (sym (append-nil c.loop-clause.names))
    ])

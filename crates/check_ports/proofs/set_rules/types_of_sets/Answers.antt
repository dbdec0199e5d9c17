use Rattle.std.proofs.Common.{[], append-nil, sym}
use Rattle.check_base.specs.Files.{set_in}
use Rattle.check_ports.specs.SetRules.{set_types}
use Rattle.check_base.proofs.Loops.{picked_adds}
use Rattle.check_ports.proofs.set_rules.types_of_sets.Goals as goal
use Rattle.check_ports.proofs.set_rules.types_of_sets.Goals.{in-Some+in_ok-mention_types, in_default}

pub loop-clause-preserved : goal.loop-clause-preserved
loop-clause-preserved c =
    picked_adds set_types set_in [] c.loop-clause.types.items c.match-set_in.types.items c.args.clauses.now c.loop-clause.clause-index c.clause-item.result c.loop-clause-test.true c.clause-item.is c.loop-clause.invariant
    (elim c.match-set_in.branch [
      | in-Some+in_ok-mention_types w ↦ rw (← c.set_in.ensures, w.in-Some.is, w.types-is) w.in_ok-mention_types.ensures
      | in_default w ↦ rw (← c.set_in.ensures, w.in_default.is, w.types-is) (sym (append-nil c.loop-clause.types.items))
    ])

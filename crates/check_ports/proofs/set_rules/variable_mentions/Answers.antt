use Rattle.std.proofs.Common.{[], append-nil, sym}
use Rattle.check_base.specs.Files.{set_in, set_names}
use Rattle.check_base.proofs.Loops.{picked_adds}
use Rattle.check_ports.proofs.set_rules.variable_mentions.Goals as goal
use Rattle.check_ports.proofs.set_rules.variable_mentions.Goals.{in-Some+in_ok-mention_variables, in_default}

pub loop-clause-preserved : goal.loop-clause-preserved
loop-clause-preserved c =
    picked_adds set_names set_in [] c.loop-clause.mentions.items c.match-set_in.mentions.items c.args.clauses.now c.loop-clause.clause-index c.clause-item.result c.loop-clause-test.true c.clause-item.is c.loop-clause.invariant
    (elim c.match-set_in.branch [
      | in-Some+in_ok-mention_variables w ↦ rw (← c.set_in.ensures, w.in-Some.is, w.mentions-is) w.in_ok-mention_variables.ensures
      | in_default w ↦ rw (← c.set_in.ensures, w.in_default.is, w.mentions-is) (sym (append-nil c.loop-clause.mentions.items))
    ])

use Rattle.std.proofs.Common.{[], ap, ◌∙◌, append-nil, sym}
use Rattle.std.specs.List.{filter_map}
use Rattle.std.specs.Prelude.{take}
use Rattle.check_base.specs.Files.{input_port_in}
use Rattle.check_ports.specs.Spared.{spared_in}
use Rattle.check_ports.proofs.BroughtIn.{port_interfaces, brought_more}
use Rattle.check_base.proofs.Loops.{picked_adds, picked_more}
use Rattle.check_ports.proofs.brought.brought_in.Goals as goal
use Rattle.check_ports.proofs.brought.brought_in.Goals.{in-Some+in_ok-bring_in, in_default}

pub loop-clause-preserved : goal.loop-clause-preserved
loop-clause-preserved c = (
  picked_adds port_interfaces input_port_in [] c.loop-clause.earlier c.match-input_port_in.earlier c.args.clauses.now c.loop-clause.clause-index c.clause-item.result c.loop-clause-test.true c.clause-item.is c.loop-clause.invariant.0
      (elim c.match-input_port_in.branch [
        | in-Some+in_ok-bring_in w ↦ rw (← c.input_port_in.ensures, w.in-Some.is, w.earlier-is) w.in_ok-bring_in.ensures.earlier
        | in_default w ↦ rw (← c.input_port_in.ensures, w.in_default.is, w.earlier-is) (sym (append-nil c.loop-clause.earlier))
      ]),
  brought_more c.args.interfaces.now (input_port_in c.clause-item.result) (filter_map input_port_in (take c.loop-clause.clause-index c.args.clauses.now)) c.loop-clause.earlier c.loop-clause.mentions.items c.match-input_port_in.mentions.items c.loop-clause.invariant.0 c.loop-clause.invariant.1
      (elim c.match-input_port_in.branch [
        | in-Some+in_ok-bring_in w ↦ rw (← c.input_port_in.ensures, w.in-Some.is, w.mentions-is) w.in_ok-bring_in.ensures.mentions
        | in_default w ↦ rw (← c.input_port_in.ensures, w.in_default.is, w.mentions-is) (sym (append-nil c.loop-clause.mentions.items))
      ])
      ∙ ap (spared_in c.args.interfaces.now []) (sym (picked_more input_port_in c.args.clauses.now c.loop-clause.clause-index c.clause-item.result c.loop-clause-test.true c.clause-item.is)),
)

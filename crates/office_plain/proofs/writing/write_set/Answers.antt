use Rattle.std.proofs.Common.{arith}
use Rattle.std.specs.Option.{option_copied}
use Rattle.behaviour_tree.specs.View.{type_view}
use Rattle.correlation.specs.View.{sessions_of}
use Rattle.office_plain.proofs.Writes.{live_written, variable_can, variable_then, variable_turn, variables_end}
use Rattle.office_plain.proofs.writing.write_set.Goals as goal

pub write_value-requires-clause-free : goal.write_value-requires-clause-free
write_value-requires-clause-free c =
    let m = c.args.message.now in
    variable_can m.session c.loop-variable.number c.loop-variable.variable-index
    (type_view c.args.ty.now) m.value c.args.variables.now c.variable-item.result
    (option_copied c.value_of-value.result) (sessions_of c.loop-variable.rows)
    c.loop-variable-test.true c.variable-item.is c.value_of-value.ensures
    c.loop-variable.invariant.free

pub loop-variable-preserved : goal.loop-variable-preserved
loop-variable-preserved c =
    let m = c.args.message.now in
    record {
      number = omega arith;
      live = live_written m.session _ _ _ c.in_ok-write_value.ensures c.loop-variable.invariant.live;
      free =
          variable_then m.session c.loop-variable.number c.sum-number.result c.loop-variable.variable-index
          (type_view c.args.ty.now) m.value c.args.variables.now c.variable-item.result
          (option_copied c.value_of-value.result) _ _
          c.loop-variable-test.true c.variable-item.is c.value_of-value.ensures c.in_ok-write_value.ensures
          c.sum-number.ensures
          c.loop-variable.invariant.free;
      rest =
          variable_turn m.session c.loop-variable.number c.sum-number.result c.loop-variable.variable-index
          (type_view c.args.ty.now) m.value c.args.variables.now c.variable-item.result
          (option_copied c.value_of-value.result) _ _ _
          c.loop-variable-test.true c.variable-item.is c.value_of-value.ensures c.in_ok-write_value.ensures
          c.sum-number.ensures
          c.loop-variable.invariant.rest;
    }

pub returns-clause-rows : goal.returns-clause-rows
returns-clause-rows c =
    let m = c.args.message.now in
    variables_end m.session c.loop-variable.number c.loop-variable.variable-index (type_view c.args.ty.now) m.value
    c.args.variables.now _ _ c.loop-variable-test.false c.loop-variable.invariant.rest

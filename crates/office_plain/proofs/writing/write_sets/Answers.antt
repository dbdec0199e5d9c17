use Rattle.std.proofs.Common.{length, ap, arith}
use Rattle.behaviour_tree.specs.View.{type_view}
use Rattle.correlation.specs.View.{sessions_of}
use Rattle.office_plain.proofs.Counts.{next_variables}
use Rattle.office_plain.proofs.Writes.{set_can, set_then, set_turn, sets_end}
use Rattle.office_plain.proofs.writing.write_sets.Goals as goal

pub write_set-requires-clause-few : goal.write_set-requires-clause-few
write_set-requires-clause-few c =
    let next = next_variables c.args.sets.now c.loop-set.set-index c.set-item.result c.loop-set-test.true c.set-item.is in
    omega (arith, next, c.loop-set.invariant.few, c.requires.few, ap length c.deref.ensures.value)

pub write_set-requires-clause-free : goal.write_set-requires-clause-free
write_set-requires-clause-free c =
    let m = c.args.message.now in
    set_can m.session c.loop-set.number c.loop-set.set-index (type_view c.args.ty.now) m.value
    c.args.sets.now c.set-item.result c.deref.result.now (sessions_of c.loop-set.rows)
    c.loop-set-test.true c.set-item.is c.deref.ensures.value c.loop-set.invariant.free

pub loop-set-preserved : goal.loop-set-preserved
loop-set-preserved c =
    let m = c.args.message.now in
    let next = next_variables c.args.sets.now c.loop-set.set-index c.set-item.result c.loop-set-test.true c.set-item.is in
    record {
      live = c.in_ok-number.ensures.live;
      free =
          set_then m.session c.loop-set.number c.in_ok-number.number c.loop-set.set-index
          (type_view c.args.ty.now) m.value
          c.args.sets.now c.set-item.result c.deref.result.now _ _
          c.loop-set-test.true c.set-item.is c.deref.ensures.value c.in_ok-number.ensures.rows
          c.in_ok-number.ensures.next
          c.loop-set.invariant.free;
      few =
          omega (
            arith,
            next,
            c.loop-set.invariant.few,
            c.in_ok-number.ensures.next,
            ap length c.deref.ensures.value,
          );
      rest =
          set_turn m.session c.loop-set.number c.in_ok-number.number c.loop-set.set-index
          (type_view c.args.ty.now) m.value
          c.args.sets.now c.set-item.result c.deref.result.now _ _ _
          c.loop-set-test.true c.set-item.is c.deref.ensures.value c.in_ok-number.ensures.rows
          c.in_ok-number.ensures.next
          c.loop-set.invariant.rest;
    }

pub returns : goal.returns
returns c =
    let m = c.args.message.now in
    sets_end m.session c.loop-set.number c.loop-set.set-index (type_view c.args.ty.now) m.value c.args.sets.now _ _
    c.loop-set-test.false c.loop-set.invariant.rest

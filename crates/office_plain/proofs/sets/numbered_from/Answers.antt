use Rattle.std.proofs.Common.{◌≡◌, ◌+◌, length, rules, arith}
use Rattle.office_plain.proofs.Counts.{next_variables}
use Rattle.office_plain.proofs.SetsInTurn.{set_turn}
use Rattle.office_plain.proofs.sets.numbered_from.Goals as goal

pub sum-next-requires : goal.sum-next-requires
sum-next-requires c =
    let next = next_variables c.args.sets.now c.loop-set.set-index c.set-item.result c.loop-set-test.true c.set-item.is in
    omega (arith, next, c.loop-set.invariant.variables, c.requires.variables, c.len.ensures)

pub sum-number-requires : goal.sum-number-requires
sum-number-requires c = omega (arith, c.loop-set.invariant.number, c.requires.sets, c.loop-set-test.true)

pub loop-set-preserved : goal.loop-set-preserved
loop-set-preserved c =
    let sums : c.sum-next.result ≡ c.loop-set.variable + length c.set-item.result.variables.items = search rules in
    let next = next_variables c.args.sets.now c.loop-set.set-index c.set-item.result c.loop-set-test.true c.set-item.is in
    record {
      list =
          set_turn c.args.sets.now c.loop-set.set-index c.set-item.result c.loop-set.number c.loop-set.variable
          c.sum-next.result
          c.sum-number.result _ c.loop-set.list.items c.push_set.new.list.items
          c.loop-set-test.true c.set-item.is c.loop-set.invariant.list sums c.in_ok-push_set.ensures
          c.sum-number.ensures;
      number = omega (arith, c.loop-set.invariant.number, c.sum-number.ensures);
      variables = omega (arith, c.loop-set.invariant.variables, next, sums);
    }

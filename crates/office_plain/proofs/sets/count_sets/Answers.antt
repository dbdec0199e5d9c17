use Rattle.std.proofs.Common.{arith}
use Rattle.office_plain.proofs.Counts.{next_sets}
use Rattle.office_plain.proofs.sets.count_sets.Goals as goal

pub sum-count-requires : goal.sum-count-requires
sum-count-requires c =
    let next = next_sets c.args.services.now c.loop-service.service-index c.service-item.result c.loop-service-test.true
    c.service-item.is in
    omega (arith, next, c.loop-service.invariant, c.requires, c.len.ensures)

use Rattle.std.proofs.Common.{rules}
use Rattle.office_plain.proofs.Counts.{number_turn}
use Rattle.office_plain.proofs.sets.numbers_from.Goals as goal

pub loop-number-preserved : goal.loop-number-preserved
loop-number-preserved c =
    number_turn c.args.first c.loop-number.number c.loop-number.numbers.items c.push.new.self.items
    c.loop-number.auto.number c.loop-number.invariant (search rules)

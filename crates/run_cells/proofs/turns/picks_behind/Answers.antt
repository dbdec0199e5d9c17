-- Behind more picks than there are is none.
use Rattle.std.proofs.Common.{arith, sym}
use Rattle.std.proofs.lemmas.List.{drop_all}
use Rattle.run_cells.proofs.turns.picks_behind.Goals as goal

pub returns-then-left-count : goal.returns-then-left-count
returns-then-left-count c =
    sym (drop_all c.args.count c.args.picks.now (omega (arith, c.if-left-count.true)))

-- What the turn says of itself is what it came to.
use Rattle.run_cells.proofs.Turning.{turned_by}
use Rattle.run_cells.proofs.turns.turn_at.Goals as goal

pub returns-clause-turned : goal.returns-clause-turned
returns-clause-turned g c =
    let k = c.requires.kept in
    let e = c.turn_of.ensures in
    turned_by _ _ _ c.turn_of.result k.here k.at e.did e.idle e.ended e.spent e.at_end e.at_rest

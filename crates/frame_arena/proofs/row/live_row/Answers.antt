use Rattle.frame_arena.proofs.Seeking.{row_live, row_within}
use Rattle.frame_arena.proofs.row.live_row.Goals as goal

pub returns-clause-row : goal.returns-clause-row
returns-clause-row g c = row_live c.args.rows.now c.args.number c.place_of.result c.requires.rising c.place_of.ensures c.requires.live

pub returns-clause-within : goal.returns-clause-within
returns-clause-within g c =
    row_within c.args.rows.now c.args.number c.place_of.result
    (row_live c.args.rows.now c.args.number c.place_of.result c.requires.rising c.place_of.ensures c.requires.live)

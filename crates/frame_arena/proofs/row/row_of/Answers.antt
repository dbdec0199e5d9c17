use Rattle.frame_arena.proofs.Seeking.{row_found, row_past, row_missing}
use Rattle.frame_arena.proofs.row.row_of.Goals as goal

pub returns-then-place-rows-clause-row : goal.returns-then-place-rows-clause-row
returns-then-place-rows-clause-row g c =
    row_past c.args.rows.now c.args.number c.place_of-place.result c.requires c.place_of-place.ensures c.if-place-rows.true

pub returns-then-row-number-clause-row : goal.returns-then-row-number-clause-row
returns-then-row-number-clause-row g c =
    row_missing c.args.rows.now c.args.number c.place_of-place.result c.index-rows-place.result c.requires c.place_of-place.ensures
    c.if-place-rows.false c.index-rows-place.is (λ same. absurd (c.if-row-number.true same))

pub returns-then-not-row-clause-row : goal.returns-then-not-row-clause-row
returns-then-not-row-clause-row g c =
    row_missing c.args.rows.now c.args.number c.place_of-place.result c.index-rows-place.result c.requires c.place_of-place.ensures
    c.if-place-rows.false c.index-rows-place.is (λ same. c.if-not-row.true)

pub returns-clause-row : goal.returns-clause-row
returns-clause-row g c =
    row_found c.args.rows.now c.args.number c.place_of-place.result c.index-rows-place.result c.requires
    c.if-place-rows.false c.index-rows-place.is c.if-row-number.false c.if-not-row.false

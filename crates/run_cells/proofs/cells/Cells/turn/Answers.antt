-- The turn of a cell is one of the run state.
use Rattle.std.proofs.Common.{refl}
use Rattle.std.proofs.lemmas.Result.{IfOk-weaker}
use Rattle.run_cells.proofs.Offices.{cell_fits, stand_at, turn_is, works_turn_ok}
use Rattle.run_cells.proofs.Teams.{few_stands}
use Rattle.run_cells.proofs.cells.Cells.turn.Goals as goal

pub overflow_cast-player : goal.overflow_cast-player
overflow_cast-player g c =
    cell_fits _ c.args.self.now.cells.items c.args.number (few_stands _ c.requires.work.team) c.requires.there

pub turn_at-requires-clause-kept : goal.turn_at-requires-clause-kept
turn_at-requires-clause-kept g c =
    c.requires.work.team.each c.args.number _
    (stand_at _ c.args.self.now.cells.items c.args.number c.index_mut.result.now c.requires.there c.index_mut.ensures.value)

pub returns-clause-turn : goal.returns-clause-turn
returns-clause-turn g c =
    let old = c.args.self.now in
    IfOk-weaker c.turn_at.result _ _
    (λ t h. turn_is _ old.program old.office c.turn_at.new.office old.budget old.cells.items c.args.number c.index_mut.result.now
    c.turn_at.new.cell old.picks.now c.picks_behind-self.result.now c.first_pick-pick.result t
    (stand_at _ old.cells.items c.args.number c.index_mut.result.now c.requires.there c.index_mut.ensures.value)
    c.first_pick-pick.ensures c.picks_behind-self.ensures h)
    c.turn_at.ensures.turned

pub returns-clause-work : goal.returns-clause-work
returns-clause-work g c =
    works_turn_ok _ c.args.number c.turn_at.result c.requires.work c.turn_at.ensures.ready refl refl c.requires.awake
    (returns-clause-turn g c)

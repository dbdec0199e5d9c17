-- A session that used its whole budget is looked at.
use Rattle.std.proofs.Common.{◌≤◌, subst}
use Rattle.std.proofs.lemmas.Result.{IfOk-weaker}
use Rattle.run_cells.proofs.Offices.{cell_fits, stand_at}
use Rattle.run_cells.proofs.Seeing.{used_all}
use Rattle.run_cells.proofs.Teams.{few_stands}
use Rattle.run_cells.proofs.cells.Cells.could_act.Goals as goal

pub overflow_cast-player : goal.overflow_cast-player
overflow_cast-player g c =
    cell_fits _ c.args.self.now.cells.items c.args.number (few_stands _ c.requires.work.team) c.requires.there

pub look_at-requires-clause-kept : goal.look_at-requires-clause-kept
look_at-requires-clause-kept g c =
    c.requires.work.team.each c.args.number _
    (stand_at _ c.args.self.now.cells.items c.args.number c.index-cell.result.now c.requires.there c.index-cell.ensures)

pub returns-clause-exact : goal.returns-clause-exact
returns-clause-exact g c =
    IfOk-weaker c.look_at.result _ _
    (λ b x. used_all _ c.requires.work.team c.args.number _
    (stand_at _ c.args.self.now.cells.items c.args.number c.index-cell.result.now c.requires.there c.index-cell.ensures)
    (subst (λ k. c.args.self.now.budget ≤ k) c.len-count.ensures c.if-count-self.false) x)
    c.look_at.ensures.exact

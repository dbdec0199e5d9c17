-- One that rests after all entries sleeps.
use Rattle.std.proofs.Common.{refl}
use Rattle.run_cells.proofs.Offices.{cell_fits}
use Rattle.run_cells.proofs.Skipping.{laid_work}
use Rattle.run_cells.proofs.Teams.{few_stands}
use Rattle.run_cells.proofs.cells.Cells.lay.Goals as goal

pub overflow_cast-number : goal.overflow_cast-number
overflow_cast-number g c =
    cell_fits _ c.args.self.now.cells.items c.args.number (few_stands _ c.requires.work.team) c.requires.there

pub returns-clause-work : goal.returns-clause-work
returns-clause-work g c =
    laid_work _ (record { awake = c.lay.new.self; senders = c.args.self.now.news.senders.items }) c.args.number c.requires.work
    c.requires.heard c.requires.rests c.lay.ensures.laid refl

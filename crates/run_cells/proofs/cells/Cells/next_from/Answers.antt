-- The first that is awake, or the next that is born.
use Rattle.std.proofs.Common.{◌∙◌}
use Rattle.run_cells.specs.Visits.{first_awake, none_awake}
use Rattle.run_cells.proofs.Skipping.{next_fits, unborn_next}
use Rattle.run_cells.proofs.Teams.{few_stands}
use Rattle.run_cells.proofs.cells.Cells.next_from.Goals as goal

pub overflow_cast-number : goal.overflow_cast-number
overflow_cast-number g c =
    next_fits _ c.args.self.now.cells.items c.args.number (few_stands _ c.requires.work.team) c.requires.within

pub returns-in-Some : goal.returns-in-Some
returns-in-Some g c = first_awake c.in-Some.ensures.some

pub returns-in-None : goal.returns-in-None
returns-in-None g c =
    none_awake c.in-None.ensures.none
    (unborn_next _ c.args.self.now.cells.items (c.len.ensures ∙ c.args.self.now.cells.ok.0))

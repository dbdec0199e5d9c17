-- Those between two sessions that are awake sleep.
use Rattle.run_cells.proofs.Looping.{came_within}
use Rattle.run_cells.proofs.Skipping.{next_is, next_rising, next_skips, next_there, picks_work, within_cells}
use Rattle.run_cells.proofs.cells.Cells.skip.Goals as goal

pub overflow_sub-count : goal.overflow_sub-count
overflow_sub-count g c =
    next_rising _ c.args.number _ c.requires.work c.requires.heard
    (within_cells _ c.args.self.now.cells.items c.requires.within) c.next_from-next.ensures

pub returns-clause-next : goal.returns-clause-next
returns-clause-next g c =
    next_is _ c.args.number _ c.requires.work c.requires.heard
    (within_cells _ c.args.self.now.cells.items c.requires.within) c.next_from-next.ensures
    c.picks_behind-self.result.now

pub returns-clause-skipped : goal.returns-clause-skipped
returns-clause-skipped g c =
    next_skips _ c.args.number _ c.requires.work c.requires.heard
    (within_cells _ c.args.self.now.cells.items c.requires.within) c.next_from-next.ensures
    c.picks_behind-self.result.now c.picks_behind-self.ensures

pub returns-clause-within : goal.returns-clause-within
returns-clause-within g c =
    came_within _ c.args.self.now.cells.items _
    (next_there _ c.args.number _ c.requires.work c.requires.heard
    (within_cells _ c.args.self.now.cells.items c.requires.within) c.next_from-next.ensures)

pub returns-clause-work : goal.returns-clause-work
returns-clause-work g c = picks_work _ c.picks_behind-self.result.now c.requires.work

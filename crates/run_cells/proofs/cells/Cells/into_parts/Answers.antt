-- The events of all are those that the sessions have.
use Rattle.run_cells.specs.View.{stand_in}
use Rattle.run_cells.proofs.Looping.{parts_all}
use Rattle.run_cells.proofs.cells.Cells.into_parts.Goals as goal

pub returns-clause-sessions : goal.returns-clause-sessions
returns-clause-sessions g c =
    parts_all (stand_in g.S.Session)
    c.in_ok-sessions.sessions c.args.self.cells.items c.in_ok-sessions.ensures

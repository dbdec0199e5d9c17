-- A session begins at the start of its service.
use Rattle.run_cells.specs.RunStates.{stand_by}
use Rattle.test_seats.proofs.seating.begun.Goals as goal

pub returns-clause-stand : goal.returns-clause-stand
returns-clause-stand c =
    let e = c.in_ok-session.ensures in
    λ i. stand_by (e.service i) (e.config i) (c.new-events.ensures i)

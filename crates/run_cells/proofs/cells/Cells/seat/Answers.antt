-- A session is seated behind the others.
use Rattle.run_cells.specs.RunStates.{stand_by}
use Rattle.run_cells.proofs.Looping.{on_ok, seat_more}
use Rattle.run_cells.proofs.cells.Cells.seat.Goals as goal

pub returns-clause-stands : goal.returns-clause-stands
returns-clause-stands g c =
    let e = c.in_ok-session.ensures in
    on_ok c.wake.result
    (seat_more _ _ _ _ _ c.in_ok-push.ensures.items (λ i. stand_by (e.service i) (e.config i) (c.new-events.ensures i)))

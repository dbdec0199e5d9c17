-- The outcome of a call adds the worker's entry.
use Rattle.std.proofs.Common.{[], Some, refl}
use Rattle.office_core.specs.declared.history.Act.TheVariants as act
use Rattle.office_core.specs.Limits.{first_worker}
use Rattle.office_plain.specs.Entries.{entry}
use Rattle.office_plain.specs.View.{past_in}
use Rattle.run_cells.proofs.Offices.{at_work, stays_work, works_ok}
use Rattle.test_seats.specs.Seats.{run_state_in}
use Rattle.test_seats.proofs.seat.Seat.bring.Goals as goal

pub answered-requires-clause-works : goal.answered-requires-clause-works
answered-requires-clause-works c = at_work (past_in c.args.self.now.office) c.requires.seated.desk.running

pub returns-clause-added : goal.returns-clause-added
returns-clause-added c =
    stays_work {c = run_state_in c.args.self.now []} c.answered.new.self c.answered.result
    (λ _. Some (entry first_worker (act.Answered 0 c.args.call c.args.outcome))) c.requires.seated c.answered.ensures.added

pub returns-clause-seated : goal.returns-clause-seated
returns-clause-seated c =
    works_ok (run_state_in c.args.self.now []) c.answered.new.self c.answered.result
    (λ _. Some (entry first_worker (act.Answered 0 c.args.call c.args.outcome))) c.requires.seated c.answered.ensures.added
    c.answered.ensures.ready (λ _. refl) (λ _. refl)

-- A collection adds the worker's entry, where an answer is there.
use Rattle.std.proofs.Common.{[]}
use Rattle.office_core.specs.Limits.{first_worker}
use Rattle.office_plain.specs.Entries.{collect_entry}
use Rattle.run_cells.proofs.Offices.{collect_goes, collect_own, stays_work, works_ok}
use Rattle.test_seats.specs.Seats.{run_state_in}
use Rattle.test_seats.proofs.seat.Seat.collect.Goals as goal

pub returns-clause-added : goal.returns-clause-added
returns-clause-added c =
    stays_work {c = run_state_in c.args.self.now []} c.collect.new.self c.collect.result (collect_entry first_worker c.args.message)
    c.requires.seated c.collect.ensures.added

pub returns-clause-seated : goal.returns-clause-seated
returns-clause-seated c =
    works_ok (run_state_in c.args.self.now []) c.collect.new.self c.collect.result (collect_entry first_worker c.args.message)
    c.requires.seated c.collect.ensures.added c.collect.ensures.ready (collect_own c.args.message)
    (collect_goes c.args.message)

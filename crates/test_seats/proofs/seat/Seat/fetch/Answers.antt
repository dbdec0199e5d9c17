-- A fetch adds the worker's entry, where a call waits.
use Rattle.std.proofs.Common.{[]}
use Rattle.office_core.specs.Limits.{first_worker}
use Rattle.office_plain.specs.Entries.{fetch_entry}
use Rattle.office_plain.specs.View.{past_in}
use Rattle.run_cells.proofs.Offices.{at_work, fetch_goes, fetch_own, stays_work, works_ok}
use Rattle.test_seats.specs.Seats.{run_state_in}
use Rattle.test_seats.proofs.seat.Seat.fetch.Goals as goal

pub fetch-requires : goal.fetch-requires
fetch-requires c = at_work (past_in c.args.self.now.office) c.requires.desk.running

pub returns-clause-added : goal.returns-clause-added
returns-clause-added c =
    stays_work {c = run_state_in c.args.self.now []} c.fetch.new.self c.fetch.result (fetch_entry first_worker) c.requires
    c.fetch.ensures.added

pub returns-clause-seated : goal.returns-clause-seated
returns-clause-seated c =
    works_ok (run_state_in c.args.self.now []) c.fetch.new.self c.fetch.result (fetch_entry first_worker) c.requires
    c.fetch.ensures.added c.fetch.ensures.ready fetch_own fetch_goes

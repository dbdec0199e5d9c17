-- A fetch adds the worker's entry, where a call waits.
use Rattle.std.specs.Prelude.{◌≡◌, IfOk}
use Rattle.office_core.specs.Limits.{first_worker}
use Rattle.office_plain.specs.Entries.{fetch_entry}
use Rattle.office_plain.specs.Replies.{next_outgoing}
use Rattle.office_plain.specs.View.{entries_of, past_in}
use Rattle.run_cells.proofs.Offices.{along, at_work, fetch_goes, fetch_own, stays_failed, stays_work, works_ok}
use Rattle.run_cells.proofs.cells.Cells.fetch.Goals as goal

pub fetch-requires : goal.fetch-requires
fetch-requires g c = at_work (past_in c.args.self.now.office) c.requires.work.desk.running

pub returns-clause-call : goal.returns-clause-call
returns-clause-call g c =
    along (λ w p. IfOk c.fetch.result (λ o. o ≡ next_outgoing w p c.args.kind)) (entries_of c.args.self.now.office)
    c.requires.work.desk.program c.fetch.ensures.call

pub returns-clause-added : goal.returns-clause-added
returns-clause-added g c = stays_work _ c.fetch.result (fetch_entry first_worker) c.requires.work c.fetch.ensures.added

pub returns-clause-unchanged : goal.returns-clause-unchanged
returns-clause-unchanged g c = stays_failed _ c.fetch.result c.requires.work c.fetch.ensures.unchanged

pub returns-clause-work : goal.returns-clause-work
returns-clause-work g c =
    works_ok _ _ c.fetch.result (fetch_entry first_worker) c.requires.work c.fetch.ensures.added c.fetch.ensures.ready fetch_own
    fetch_goes

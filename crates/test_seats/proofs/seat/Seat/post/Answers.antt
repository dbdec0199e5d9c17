-- A post adds the worker's entry.
use Rattle.std.proofs.Common.{[]}
use Rattle.office_core.specs.Limits.{first_worker}
use Rattle.office_plain.specs.Entries.{post_entry}
use Rattle.office_plain.specs.View.{past_in}
use Rattle.reqresp_book.specs.declared.origin.Origin.TheVariants as origin
use Rattle.run_cells.proofs.Offices.{at_work, post_goes, post_own, stays_work, works_ok}
use Rattle.test_seats.specs.Seats.{run_state_in}
use Rattle.test_seats.proofs.seat.Seat.post.Goals as goal

pub post-requires-clause-worker : goal.post-requires-clause-worker
post-requires-clause-worker c = at_work (past_in c.args.self.now.office) c.requires.desk.running

pub returns-clause-added : goal.returns-clause-added
returns-clause-added c =
    stays_work {c = run_state_in c.args.self.now []} c.post.new.self c.post.result
    (λ r. post_entry first_worker (origin.Port 0 0) c.args.posted r) c.requires c.post.ensures.added

pub returns-clause-seated : goal.returns-clause-seated
returns-clause-seated c =
    works_ok (run_state_in c.args.self.now []) c.post.new.self c.post.result
    (λ r. post_entry first_worker (origin.Port 0 0) c.args.posted r) c.requires c.post.ensures.added
    c.post.ensures.ready (post_own (origin.Port 0 0) c.args.posted) (post_goes (origin.Port 0 0) c.args.posted)

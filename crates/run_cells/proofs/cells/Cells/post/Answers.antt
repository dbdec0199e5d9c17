-- A post adds the worker's entry.
use Rattle.std.specs.Prelude.{◌≡◌, IfOk}
use Rattle.office_core.specs.Limits.{first_worker}
use Rattle.office_core.specs.Route.{post_reply, route}
use Rattle.office_plain.specs.Entries.{post_entry}
use Rattle.office_plain.specs.View.{entries_of, past_in}
use Rattle.run_cells.proofs.Offices.{along, at_work, post_goes, post_own, stays_failed, stays_work, works_ok}
use Rattle.run_cells.proofs.cells.Cells.post.Goals as goal

pub post-requires-clause-worker : goal.post-requires-clause-worker
post-requires-clause-worker g c = at_work (past_in c.args.self.now.office) c.requires.work.desk.running

pub returns-clause-reply : goal.returns-clause-reply
returns-clause-reply g c =
    along (λ w p. IfOk c.post.result (λ r. r ≡ post_reply p (route w p c.args.posted))) (entries_of c.args.self.now.office)
    c.requires.work.desk.program c.post.ensures.reply

pub returns-clause-added : goal.returns-clause-added
returns-clause-added g c =
    stays_work _ c.post.result (λ r. post_entry first_worker c.args.origin c.args.posted r) c.requires.work c.post.ensures.added

pub returns-clause-unchanged : goal.returns-clause-unchanged
returns-clause-unchanged g c = stays_failed _ c.post.result c.requires.work c.post.ensures.unchanged

pub returns-clause-work : goal.returns-clause-work
returns-clause-work g c =
    works_ok _ _ c.post.result (λ r. post_entry first_worker c.args.origin c.args.posted r) c.requires.work c.post.ensures.added
    c.post.ensures.ready (post_own c.args.origin c.args.posted) (post_goes c.args.origin c.args.posted)

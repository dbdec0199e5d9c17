-- A message came in, the first of all.
use Rattle.office_plain.specs.View.{past_in}
use Rattle.run_cells.proofs.Offices.{at_work}
use Rattle.test_seats.proofs.AtDesk.{came_first, opened_on}
use Rattle.test_seats.proofs.opening.post_first.Goals as goal

pub post-requires-clause-worker : goal.post-requires-clause-worker
post-requires-clause-worker c = at_work (past_in c.args.office.now) c.requires.opened.desk.running

pub returns-clause-opened : goal.returns-clause-opened
returns-clause-opened c =
    opened_on c.args.program.now c.args.office.now c.post.new.self c.post.result c.args.posted c.requires.opened
    c.post.ensures.added c.post.ensures.ready

pub returns-clause-entries : goal.returns-clause-entries
returns-clause-entries c =
    came_first c.args.program.now c.args.office.now c.post.new.self c.post.result c.args.posted
    c.requires.opened.desk.program c.requires.nothing_yet c.post.ensures.reply c.post.ensures.added

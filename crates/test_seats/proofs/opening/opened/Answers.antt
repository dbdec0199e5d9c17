-- Nothing happened yet.
use Rattle.test_seats.proofs.AtDesk.{opened_ok}
use Rattle.test_seats.proofs.opening.opened.Goals as goal

pub returns-clause-opened : goal.returns-clause-opened
returns-clause-opened c =
    opened_ok c.new.result c.args.program.now c.in_ok-copy.copy c.in_ok-copy.ensures.parts c.new.ensures.program
    c.new.ensures.entries c.new.ensures.ready

-- Before the first call the office has no history, and there are no sessions.
use Rattle.std.proofs.Common.{map, ◌∙◌}
use Rattle.behaviour_tree.specs.PartsView.{parts_of}
use Rattle.office_core.specs.Limits.{run_of}
use Rattle.run_cells.specs.View.{stand_in, told_in}
use Rattle.run_cells.proofs.Offices.{works_begun}
use Rattle.run_cells.proofs.cells.Cells.new.Goals as goal

pub returns-clause-begun : goal.returns-clause-begun
returns-clause-begun g c = λ i. record {
  setting = run_of (parts_of c.args.program);
  budget = c.args.budget;
  history = c.in_ok-office.ensures.entries i;
  stands = map (stand_in g.S.Session) (c.new-cells.ensures.items i);
  picks = c.args.picks.now;
}

pub returns-clause-work : goal.returns-clause-work
returns-clause-work g c =
    works_begun _ c.args.program c.in_ok-office.office c.args.budget _ c.args.picks.now (told_in c.new-news.result) _
    (c.in_ok-office.ensures.program ∙ c.in_ok-copy.ensures.parts) c.in_ok-office.ensures.entries
    c.in_ok-office.ensures.ready c.new-cells.ensures.items c.new-news.ensures.awake c.new-news.ensures.heard

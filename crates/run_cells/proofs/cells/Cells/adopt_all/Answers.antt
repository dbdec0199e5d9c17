-- Session after session is adopted, until one was not born.
use Rattle.std.proofs.Common.{refl, ◌∙◌}
use Rattle.run_cells.proofs.Looping.{adopted_less, adopting_more, adopting_over, adopting_start, adopts_none, adopts_one}
use Rattle.run_cells.proofs.Teams.{few_stands}
use Rattle.run_cells.proofs.cells.Cells.adopt_all.Goals as goal

pub adoptions-init : goal.adoptions-init
adoptions-init g c = record {
  work = c.requires.work;
  program = refl;
  adopting = adopting_start _;
}

pub adoptions-preserved : goal.adoptions-preserved
adoptions-preserved g c =
    let i = c.adoptions.invariant in
    let e = c.in_ok-adopted.ensures in
    record {
      work = e.work;
      program = e.program ∙ i.program;
      adopting = adopting_more i.adopting i.work.team (adopts_one e.adopts c.if-not-adopted.false);
    }

pub adoptions-smaller : goal.adoptions-smaller
adoptions-smaller g c =
    let e = c.in_ok-adopted.ensures in
    adopted_less _ _ _ _ (adopts_one e.adopts c.if-not-adopted.false).stands (few_stands _ e.work.team)

pub returns-then-not-adopted-clause-adopted : goal.returns-then-not-adopted-clause-adopted
returns-then-not-adopted-clause-adopted g c =
    adopting_over c.adoptions.invariant.adopting (adopts_none c.in_ok-adopted.ensures.adopts c.if-not-adopted.true)

-- The session had some turns, each of which did something.
use Rattle.std.proofs.Common.{◌≡◌, ◌<◌, length}
use Rattle.run_cells.specs.Awake.{IsOn}
use Rattle.run_cells.specs.RunStates.{AtWork}
use Rattle.run_cells.specs.View.{run_state, state}
use Rattle.run_cells.specs.Rounds.{left}
use Rattle.run_cells.proofs.Looping.{Turning}
use Rattle.run_cells.proofs.cells.Cells.turns_of.Given as goal

abbrev pub invariant-turns : goal.invariant-turns
invariant-turns g l = record {
  work : AtWork (run_state g.S.Session l.self);
  there : l.number < length l.self.cells.items;
  program : l.self.program ≡ l.fn.self.program;
  news : l.self.news ≡ l.fn.self.news;
  awake : IsOn l.self.news.awake l.number;
  turns : Turning l.number (state g.S.Session l.fn.self)
      (state g.S.Session l.self) l.moved;
}

abbrev pub decreases-turns : goal.decreases-turns
decreases-turns g l = left (state g.S.Session l.self)

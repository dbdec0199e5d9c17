-- No session so far used its whole budget and could act.
use Rattle.std.proofs.Common.{◌≡◌, length}
use Rattle.run_cells.specs.RunStates.{AtWork}
use Rattle.run_cells.specs.View.{run_state, state}
use Rattle.run_cells.proofs.Looping.{NoneBelow}
use Rattle.run_cells.proofs.cells.Cells.is_spent.Given as goal

abbrev pub invariant-loop-number : goal.invariant-loop-number
invariant-loop-number g l = record {
  work : AtWork (run_state g.S.Session l.self);
  program : l.self.program ≡ l.initial.self.program;
  same : state g.S.Session l.self ≡ state g.S.Session l.initial.self;
  length : length l.self.cells.items ≡ length l.initial.self.cells.items;
  none : NoneBelow l.number (state g.S.Session l.initial.self);
}

-- The sessions below a number had their turns, and all entries were looked at.
use Rattle.std.proofs.Common.{◌≡◌, ◌≤◌, ◌-◌, length}
use Rattle.office_core.specs.Limits.{first_worker}
use Rattle.run_cells.specs.RunStates.{AtWork, HasHeardAll}
use Rattle.run_cells.specs.View.{run_state, state}
use Rattle.run_cells.proofs.Looping.{Rounding}
use Rattle.run_cells.proofs.cells.Cells.all_turns.Given as goal

abbrev pub invariant-round : goal.invariant-round
invariant-round g l = record {
  work : AtWork (run_state g.S.Session l.self);
  heard : HasHeardAll (run_state g.S.Session l.self);
  within : l.number ≤ length l.self.cells.items;
  program : l.self.program ≡ l.fn.self.program;
  round : Rounding l.number (state g.S.Session l.fn.self)
      (state g.S.Session l.self) l.moved;
}

abbrev pub decreases-round : goal.decreases-round
decreases-round g l = first_worker - l.number

-- Some sessions were adopted.
use Rattle.std.proofs.Common.{◌≡◌, ◌-◌, length}
use Rattle.office_core.specs.Limits.{first_worker}
use Rattle.run_cells.specs.RunStates.{AtWork}
use Rattle.run_cells.specs.View.{run_state, state}
use Rattle.run_cells.proofs.Looping.{Adopting}
use Rattle.run_cells.proofs.cells.Cells.adopt_all.Given as goal

abbrev pub invariant-adoptions : goal.invariant-adoptions
invariant-adoptions g l = record {
  work : AtWork (run_state g.S.Session l.self);
  program : l.self.program ≡ l.fn.self.program;
  adopting : Adopting (state g.S.Session l.fn.self)
      (state g.S.Session l.self);
}

abbrev pub decreases-adoptions : goal.decreases-adoptions
decreases-adoptions g l = first_worker - length l.self.cells.items

-- Some more entries were looked at, and nothing else changed.
use Rattle.std.proofs.Common.{◌≡◌, ◌-◌, length}
use Rattle.office_plain.specs.View.{entries_of}
use Rattle.run_cells.specs.RunStates.{AtWork}
use Rattle.run_cells.specs.View.{run_state, state}
use Rattle.run_cells.proofs.cells.Cells.hear_all.Given as goal

abbrev pub invariant-entries : goal.invariant-entries
invariant-entries g l = record {
  work : AtWork (run_state g.S.Session l.self);
  program : l.self.program ≡ l.fn.self.program;
  same : state g.S.Session l.self ≡ state g.S.Session l.fn.self;
  count : l.count ≡ length l.self.cells.items;
}

abbrev pub decreases-entries : goal.decreases-entries
decreases-entries g l = length (entries_of l.self.office) - l.self.news.heard

-- Look by look at the front.
use Rattle.std.proofs.Common.{◌≡◌}
use Rattle.behaviour_tree.specs.PartsView.{parts_of}
use Rattle.run_sweep.specs.Courses.{Goes}
use Rattle.run_cells.specs.RunStates.{AtWork}
use Rattle.run_cells.specs.View.{run_state, state}
use Rattle.run_posts.specs.CallStates.{waits}
use Rattle.run_sweep.specs.Swept.{CompletedCallsBy}
use Rattle.run_alone.specs.Between.{Between, Passed}
use Rattle.run_alone.proofs.Looks.{IsAt, Looked, looks_left}
use Rattle.run_alone.proofs.alone.Alone.bring_in.Given as goal

abbrev pub invariant-looks : goal.invariant-looks
invariant-looks g l = record {
  program : l.self.cells.program ≡ l.fn.self.cells.program;
  budget : (state g.S.Session l.self.cells).budget ≡ (state g.S.Session l.fn.self.cells).budget;
  setting : (state g.S.Session l.self.cells).setting ≡ (state g.S.Session l.fn.self.cells).setting;
  work : AtWork (run_state g.S.Session l.self.cells);
  between : Between (state g.S.Session l.self.cells) (waits l.self.pendings) l.self.pendings.postings l.unfailed;
  goes : Goes (state g.S.Session l.fn.self.cells) (state g.S.Session l.self.cells);
  completed : CompletedCallsBy (state g.S.Session l.fn.self.cells).setting (state g.S.Session l.fn.self.cells).history (state g.S.Session l.self.cells).history (g.L.Link.told l.fn.link) (g.L.Link.told l.link);
  passed : Looked g.F.Front.exchanged (parts_of l.fn.self.cells.program) l.fn.front l.front
      (Passed (state g.S.Session l.fn.self.cells) (waits l.fn.self.pendings) l.fn.self.pendings.postings)
      (λ new. IsAt new (state g.S.Session l.self.cells) (waits l.self.pendings) l.self.pendings.postings l.unfailed l.looks l.moves);
}

abbrev pub decreases-looks : goal.decreases-looks
decreases-looks g l = looks_left l.self.pendings.postings l.looks l.moves

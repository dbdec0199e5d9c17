-- After each round that did something each call has its outcome, and fewer events may come.
use Rattle.std.proofs.Common.{◌≡◌, []}
use Rattle.run_record.specs.Quiet.{outstanding}
use Rattle.run_cells.specs.RunStates.{AtWork, past_in}
use Rattle.run_cells.specs.View.{run_state, state}
use Rattle.run_cells.specs.Rounds.{left}
use Rattle.run_sweep.specs.Swept.{NotesBy, PassedOn, StaysQuiet, Swept, CompletedCallsBy}
use Rattle.run_sweep.proofs.sweeping.sweep.Given as goal

abbrev pub invariant-loop : goal.invariant-loop
invariant-loop g l = record {
  program : l.cells.program ≡ l.initial.cells.program;
  work : AtWork (run_state g.S.Session l.cells);
  swept : Swept (state g.S.Session l.initial.cells) (state g.S.Session l.cells);
  received : outstanding (past_in (state g.S.Session l.cells)) ≡ [];
  completed : CompletedCallsBy (state g.S.Session l.initial.cells).setting
      (state g.S.Session l.initial.cells).history (state g.S.Session l.cells).history
      (g.L.Link.told l.initial.link) (g.L.Link.told l.link);
  noted : PassedOn g.F.Front.exchanged l.initial.front l.front
      (NotesBy (state g.S.Session l.initial.cells).setting
      (state g.S.Session l.initial.cells).history (state g.S.Session l.cells).history);
  still : StaysQuiet (state g.S.Session l.initial.cells) (state g.S.Session l.cells);
}

abbrev pub decreases-loop : goal.decreases-loop
decreases-loop g l = left (state g.S.Session l.cells)

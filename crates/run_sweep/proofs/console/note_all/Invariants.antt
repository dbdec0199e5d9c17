-- The calls that were fetched so far were noted; those that wait are fewer each time.
use Rattle.std.proofs.Common.{◌≡◌, length}
use Rattle.outside_links.specs.Trips.{LinkTold}
use Rattle.office_core.specs.declared.outgoing.OutKind.TheVariants as kind
use Rattle.office_core.specs.Calls.{outgoing}
use Rattle.run_cells.specs.RunStates.{AtWork, past_in}
use Rattle.run_cells.specs.View.{run_state, state}
use Rattle.run_sweep.specs.Swept.{Errands, NotesBy, PassedOn, CompletedCallsBy}
use Rattle.run_sweep.proofs.console.note_all.Given as goal

abbrev pub invariant-loop-out : goal.invariant-loop-out
invariant-loop-out g l = record {
  program : l.cells.program ≡ l.initial.cells.program;
  work : AtWork (run_state g.S.Session l.cells);
  errands : Errands (state g.S.Session l.initial.cells).setting kind.Console
      (state g.S.Session l.initial.cells) (state g.S.Session l.cells) l.moved;
  completed : (now : LinkTold)
      → CompletedCallsBy (state g.S.Session l.initial.cells).setting
      (state g.S.Session l.initial.cells).history (state g.S.Session l.cells).history now now;
  noted : PassedOn g.F.Front.exchanged l.initial.front l.front
      (NotesBy (state g.S.Session l.initial.cells).setting
      (state g.S.Session l.initial.cells).history (state g.S.Session l.cells).history);
}

abbrev pub decreases-loop-out : goal.decreases-loop-out
decreases-loop-out g l =
    length (outgoing (state g.S.Session l.cells).setting
    (past_in (state g.S.Session l.cells)) kind.Console)

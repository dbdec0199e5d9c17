-- The trips of the calls that were fetched so far were made; those that wait are fewer each time.
use Rattle.std.proofs.Common.{◌≡◌, ℕ, List, length}
use Rattle.office_core.specs.declared.outgoing.OutKind.TheVariants as kind
use Rattle.office_core.specs.Calls.{outgoing}
use Rattle.run_cells.specs.RunStates.{AtWork, past_in}
use Rattle.run_cells.specs.View.{run_state, state}
use Rattle.run_trip_laws.specs.Going.{NotedSoFar}
use Rattle.run_sweep.specs.Swept.{Errands, CompletedCallsBy}
use Rattle.run_sweep.proofs.elsewhere.trip_all.Given as goal

abbrev pub invariant-loop-out : goal.invariant-loop-out
invariant-loop-out g l = record {
  program : l.cells.program ≡ l.initial.cells.program;
  work : AtWork (run_state g.S.Session l.cells);
  errands : Errands (state g.S.Session l.initial.cells).setting kind.Remote
      (state g.S.Session l.initial.cells) (state g.S.Session l.cells) l.moved;
  completed : CompletedCallsBy (state g.S.Session l.initial.cells).setting
      (state g.S.Session l.initial.cells).history (state g.S.Session l.cells).history
      (g.L.Link.told l.initial.link) (g.L.Link.told l.link);
  noted : (noted : List ℕ)
      → NotedSoFar (state g.S.Session l.initial.cells).setting
      (state g.S.Session l.initial.cells).history noted
      → NotedSoFar (state g.S.Session l.initial.cells).setting
      (state g.S.Session l.cells).history noted;
}

abbrev pub decreases-loop-out : goal.decreases-loop-out
decreases-loop-out g l =
    length (outgoing (state g.S.Session l.cells).setting
    (past_in (state g.S.Session l.cells)) kind.Remote)

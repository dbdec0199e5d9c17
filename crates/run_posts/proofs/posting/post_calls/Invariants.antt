-- The calls before the next were posted.
use Rattle.std.proofs.Common.{◌≡◌}
use Rattle.run_cells.specs.RunStates.{AtWork}
use Rattle.run_cells.specs.View.{run_state, state}
use Rattle.run_posts.proofs.Added.{IsPosting}
use Rattle.run_posts.proofs.posting.post_calls.Given as goal

abbrev pub invariant-loop-call : goal.invariant-loop-call
invariant-loop-call g l = record {
  program : l.cells.program ≡ l.initial.cells.program;
  work : AtWork (run_state g.S.Session l.cells);
  index : l.index ≡ l.call-index;
  posting : IsPosting (state g.S.Session l.initial.cells) (state g.S.Session l.cells)
      (l.posting, l.call-index) l.calls l.call_states.items;
}
